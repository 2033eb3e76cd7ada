use Rattle.std.proofs.Common.{◌≡◌, take}
use Rattle.room_core.specs.declared.parts.Stage.TheVariants.{Checking}
use Rattle.room_table.specs.Seats.{caller_now}
use Rattle.purgatory.specs.Listed.{AreTaken, Keeps}
use Rattle.purgatory.specs.Registered.{have_read}
use Rattle.purgatory.proofs.room.Room.read_needs.Given as goal

abbrev pub invariant-loop-i : goal.invariant-loop-i
invariant-loop-i l = record {
  keeps : Keeps l.initial.owner l.owner;
  checking : (caller_now l.owner).stage ≡ Checking;
  read : l.owner ≡ have_read l.initial.owner (take l.i l.needs) (take l.i l.values);
  taken : AreTaken l.needs l.values l.i (caller_now l.owner);
}
