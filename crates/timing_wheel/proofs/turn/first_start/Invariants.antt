use Rattle.std.proofs.Common.{◌≡◌, ◌+◌, ◌/◌, ◌≤◌, ℕ, None, Some, get_or}
use Rattle.timing_wheel.specs.declared.timer.Timer.{Timer}
use Rattle.timing_wheel.specs.Place.{level_of, span_of}
use Rattle.timing_wheel.proofs.turn.first_start.Given as goal

abbrev pub invariant-loop-step : goal.invariant-loop-step
invariant-loop-step l =
    (id : ℕ) (e : Timer) → get_or l.entries id None ≡ Some e → level_of e ≡ l.level → l.ticks + l.step ≤ e.deadline / span_of e
