-- A pass takes the turn of one partition's lock: what it finds there goes on from what it saw by others' entries, and it leaves its own
-- entry behind that.
use Rattle.std.specs.Prelude.{ℕ, ◌≡◌, ◌≢◌, List, [], ◌∷◌, ◌++◌, length, Some, slice_get, slice_set}
use Rattle.std.specs.List.{AllByRecursion}
use Rattle.partlog.specs.History.{History}
use Rattle.partlog.specs.Moment.{moment_of}
use Rattle.partlog.specs.State.{state_of}
use Rattle.audit.specs.declared.account.Point.{Point}
use Rattle.kanswer.specs.Decisions.{Entry, Looked, Outcome}
use Rattle.kanswer.specs.WithEntry.{entered}
use Rattle.audit.specs.broker.Entering.{Noted}
use Rattle.audit.specs.broker.GoesOn.{IsWhole, Longer}
use Rattle.audit.specs.broker.Timely.{pass_of}
use Rattle.audit.specs.broker.books.Underway.{Underway, seq_of}

-- what the pass finds in its turn of a partition
pub record Finds (u : Underway) (part : ℕ) (found : History) : Type 0 where
  -- the front that it saw last
  pub seen : History
  pub there : slice_get u.parts part ≡ Some seen
  pub longer : Longer seen found
  pub others : AllByRecursion (λ event. pass_of event ≢ u.number) longer.more
  -- as the lock keeps it
  pub whole : IsWhole found

abbrev pub point_behind : ℕ → History → Point
point_behind part found = record { part = part; place = length found.events }

-- the histories, where it left this entry, at the moment of the clock that it has seen
abbrev pub parts_after : Underway → ℕ → History → Entry → List History
parts_after u part found entry = slice_set u.parts part (entered found u.number (seq_of u) (moment_of u.clock) entry)

-- this was decided of the partition
abbrev pub accepted_there : Underway → ℕ → History → Outcome → Underway
accepted_there u part found came = record u {
  parts = parts_after u part found came.entry;
  call = record u.call { accept = u.call.accept ++ point_behind part found ∷ [] };
}

abbrev pub noted_there : Underway → ℕ → History → Outcome → Noted
noted_there u part found came = record {
  step = record { result = came.result; point = Some (point_behind part found) };
  state = state_of (entered found u.number (seq_of u) (moment_of u.clock) came.entry);
}

-- it was looked at
abbrev pub looked_there : Underway → ℕ → History → Underway
looked_there u part found = record u {
  parts = parts_after u part found Looked;
  call = record u.call { finish = u.call.finish ++ point_behind part found ∷ [] };
}
