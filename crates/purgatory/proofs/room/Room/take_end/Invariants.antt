use Rattle.std.proofs.Common.{◌≢◌}
use Rattle.room_core.specs.declared.parts.Stage.TheVariants.{Idle}
use Rattle.room_table.specs.Seats.{caller_now}
use Rattle.purgatory.specs.Listed.{Keeps}
use Rattle.purgatory.proofs.room.Room.take_end.Given as goal

abbrev pub invariant-loop : goal.invariant-loop
invariant-loop g l = record {
  keeps : Keeps l.initial.owner l.owner;
  busy : (caller_now l.owner).stage ≢ Idle;
}
