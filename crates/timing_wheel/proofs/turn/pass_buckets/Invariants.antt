use Rattle.std.proofs.Common.{◌≡◌, ◌+◌, ◌/◌, ◌<◌, ◌≤◌, ◌⊎◌, ℕ, None, Some, get_or}
use Rattle.timing_wheel.specs.declared.timer.Timer.{Timer}
use Rattle.timing_wheel.specs.Place.{level_of, span_of}
use Rattle.timing_wheel.specs.Wait.{Waits}
use Rattle.timing_wheel.specs.Handover.{IsPartOfTurn}
use Rattle.timing_wheel.proofs.turn.pass_buckets.Given as goal

abbrev pub invariant-loop-step : goal.invariant-loop-step
invariant-loop-step l = record {
  part : IsPartOfTurn l.t l.initial.entries l.entries l.initial.due l.due;
  below : (id : ℕ) (e : Timer) → get_or l.entries id None ≡ Some e → ((l.level ≤ level_of e) × (Waits l.fn.now e) × (level_of e ≡ l.level → l.start + l.step < e.deadline / span_of e)) ⊎ ((level_of e < l.level) × Waits l.t e);
}
