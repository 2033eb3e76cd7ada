-- The wheels as a caller sees them: a moment, and for each id its entry, if it is listed.
use Rattle.std.specs.Prelude.{ℕ, List, Option, None, slice_index_or, slice_set, count_by, is_some, length}
use Rattle.std.specs.Option.{option_map}
use Rattle.timing_wheel.specs.declared.timer.Timer.{Timer}

pub record Timers : Type 0 where
  -- the moment up to which the wheels were turned
  pub moment : ℕ
  -- the entry of each id
  pub slots : List (Option Timer)

-- how many ids there are
abbrev pub ids_of : Timers → ℕ
ids_of timers = length timers.slots

-- the entry of an id, if it is listed
abbrev pub entry_of : Timers → ℕ → Option Timer
entry_of timers id = slice_index_or timers.slots id None

-- the deadline of an id, if it is listed
abbrev pub deadline_of : Timers → ℕ → Option ℕ
deadline_of timers id = option_map (λ entry. entry.deadline) (entry_of timers id)

-- the wheels with this entry, or none, for the id
abbrev pub with_entry : Timers → ℕ → Option Timer → Timers
with_entry timers id entry = record timers { slots = slice_set timers.slots id entry }

-- how many entries a list has
abbrev pub listed : List (Option Timer) → ℕ
listed slots = count_by is_some slots
