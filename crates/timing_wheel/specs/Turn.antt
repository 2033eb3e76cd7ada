use Rattle.std.specs.Prelude.{ℕ, ◌*◌, ◌/◌, ◌≤◌, Option, Some, None, map, nat_le, ◌&&◌, if◌then◌else◌, IsSomeAnd}
use Rattle.timing_wheel.specs.declared.timer.Timer.{Timer}
use Rattle.timing_wheel.specs.Place.{level_of, span_of}
use Rattle.timing_wheel.specs.Timers.{Timers, entry_of}

-- the first moment of an entry's bucket
abbrev pub bucket_start : Timer → ℕ
bucket_start timer = (timer.deadline / span_of timer) * span_of timer

-- what a turn to moment t leaves of an entry: nothing where it is due, the entry put again where its bucket of a higher level
-- has started, and else the entry as it is
unfoldable pub turned : ℕ → Option Timer → Option Timer
turned t None = None
turned t (Some timer) =
    if nat_le timer.deadline t then None
    else (if nat_le 1 (level_of timer) && nat_le (bucket_start timer) t
    then Some (record { deadline = timer.deadline; put = t })
    else Some timer)

-- the wheels turned to moment t
abbrev pub turned_to : ℕ → Timers → Timers
turned_to t timers = record { moment = t; slots = map (turned t) timers.slots }

-- the id is listed with a deadline of at most t
abbrev pub IsDue : ℕ → Timers → ℕ → Type 0
IsDue t timers id = IsSomeAnd (entry_of timers id) (λ timer. timer.deadline ≤ t)
