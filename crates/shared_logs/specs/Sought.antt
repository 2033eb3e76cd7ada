-- Where bytes stand that are sought in a log.
use Rattle.std.specs.Prelude.{◌≡◌, ℕ, List, Option, Some, None, drop, length, take}
use Rattle.partlog.specs.Start.{start_of}
use Rattle.partlog.specs.History.{History}
use Rattle.partlog.specs.State.{state_of}

-- they stand in the log from this place on
abbrev pub StandAt : List ℕ → ℕ → List ℕ → Type 0
StandAt log start bytes = take (length bytes) (drop start log) ≡ bytes

-- they were sought in the history from the batch on that has this offset
abbrev pub HasSought : ℕ → List ℕ → History → Option ℕ → Type 0
HasSought offset bytes h (Some start) = (start ≡ start_of offset (state_of h)) × StandAt h.log start bytes
HasSought offset bytes h None = StandAt h.log (start_of offset (state_of h)) bytes → ⊥
