use Rattle.std.proofs.Common.{◌≡◌, ◌<◌, ◌⊎◌, ℕ, None, Some, get_or}
use Rattle.timing_wheel.specs.declared.timer.Timer.{Timer}
use Rattle.timing_wheel.specs.Place.{level_of}
use Rattle.timing_wheel.specs.Wait.{Waits}
use Rattle.timing_wheel.specs.Handover.{IsPartOfTurn}
use Rattle.timing_wheel.proofs.Turns.{size_of}
use Rattle.timing_wheel.proofs.turn.turn_bucket.Given as goal

abbrev pub invariant-loop-id : goal.invariant-loop-id
invariant-loop-id l = record {
  part : IsPartOfTurn l.t l.initial.entries l.entries l.initial.due l.due;
  rest : (id : ℕ) (e : Timer) → get_or l.entries id None ≡ Some e → (get_or l.initial.entries id None ≡ Some e) ⊎ ((level_of e < l.fn.place.level) × Waits l.t e);
}

abbrev pub decreases-loop-id : goal.decreases-loop-id
decreases-loop-id l = size_of l.number l.entries
