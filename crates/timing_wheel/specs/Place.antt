-- Hierarchical timing wheels (Varghese and Lauck 1987): eight wheels of 20 buckets; a bucket of a level spans a whole wheel of the level below.
use Rattle.std.specs.Prelude.{ℕ, zero, suc, ◌+◌, ◌-◌, ◌*◌, ◌/◌, ◌%◌, ◌^◌, nat_lt, if◌then◌else◌}
use Rattle.timing_wheel.specs.declared.place.Place.{Place}
use Rattle.timing_wheel.specs.declared.timer.Timer.{Timer}

-- the milliseconds that a bucket of a level spans
abbrev pub tick_of : ℕ → ℕ
tick_of level = 20 ^ level

-- where the wheel of a level ends that stands at a moment: 20 ticks after the start of its present bucket
abbrev pub end_of : ℕ → ℕ → ℕ
end_of level moment = (moment - moment % tick_of level) + 20 * tick_of level

-- the least level from `level` on whose wheel ends past the deadline, where one of the next `count` levels does
unfoldable pub least_from : ℕ → ℕ → ℕ → ℕ → ℕ
least_from zero level deadline put = level
least_from (suc count) level deadline put =
    if nat_lt deadline (end_of level put) then level else least_from count (level + 1) deadline put

-- the least of the eight levels whose wheel, at the moment of putting, ends past the deadline
unfoldable pub level_of : Timer → ℕ
level_of timer = least_from 8 0 timer.deadline timer.put

-- the milliseconds of a bucket at an entry's level
abbrev pub span_of : Timer → ℕ
span_of timer = tick_of (level_of timer)

-- the level, and in it the bucket of the deadline
abbrev pub place_of : Timer → Place
place_of timer = record { level = level_of timer; bucket = (timer.deadline / span_of timer) % 20 }
