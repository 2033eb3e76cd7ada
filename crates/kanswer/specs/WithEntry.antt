-- A history with the entry that a call leaves in it.
use Rattle.std.specs.Prelude.{ℕ, [], ◌∷◌, ◌++◌, length}
use Rattle.kbatch.specs.Stamp.{stamped}
use Rattle.partlog.specs.declared.event.PartEvent.TheVariants.{Append, Follow, Look}
use Rattle.partlog.specs.Added.{log_end_of}
use Rattle.partlog.specs.History.{History}
use Rattle.kanswer.specs.Decisions.{Entry, Put, Followed, Looked}

-- a history with one entry more, which a call of a pass left at a moment; the entry of a follower's fetch alone tells the moment
abbrev pub entered : History → ℕ → ℕ → ℕ → Entry → History
entered h by seq t (Put count batch) = record h {
  log = h.log ++ stamped (log_end_of h.events) batch;
  events = h.events ++ Append by seq count (length batch) ∷ [];
}
entered h by seq t (Followed replica offset) = record h { events = h.events ++ Follow by seq replica offset t ∷ [] }
entered h by seq t Looked = record h { events = h.events ++ Look by seq ∷ [] }
