use Rattle.std.proofs.Common.{◌≡◌}
use Rattle.timing_wheel.specs.Place.{tick_of}
use Rattle.timing_wheel.specs.Wait.{AllTurnedBelow}
use Rattle.timing_wheel.specs.Handover.{IsPartOfTurn}
use Rattle.timing_wheel.proofs.turn.turn.Given as goal

abbrev pub invariant-loop-level : goal.invariant-loop-level
invariant-loop-level l = record {
  tick : l.tick ≡ tick_of l.level;
  part : IsPartOfTurn l.t l.initial.entries l.entries l.initial.due l.due;
  below : AllTurnedBelow l.level l.now l.t l.entries;
}
