-- A batch put at the end of a log: its bytes, stamped with the log end as base offset, and its entry.
use Rattle.std.specs.Prelude.{ℕ, List, [], ◌∷◌, ◌++◌, length}
use Rattle.kbatch.specs.Kept.{count_of}
use Rattle.kbatch.specs.Stamp.{stamped}
use Rattle.partlog.specs.declared.event.PartEvent.TheVariants.{Append}
use Rattle.partlog.specs.Added.{log_end_of}
use Rattle.partlog.specs.History.{History}

abbrev pub appended : History → ℕ → ℕ → List ℕ → History
appended h by seq batch = record h {
  log = h.log ++ stamped (log_end_of h.events) batch;
  events = h.events ++ Append by seq (count_of batch) (length batch) ∷ [];
}
