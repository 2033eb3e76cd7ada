use Rattle.std.proofs.Common.{◌≡◌, length}
use Rattle.room_table.specs.Seats.{caller_now}
use Rattle.purgatory.specs.Listed.{AreDescribed, Describes}
use Rattle.purgatory.proofs.room.Room.describe.Given as goal

abbrev pub invariant-loop-i : goal.invariant-loop-i
invariant-loop-i l = record {
  describes : Describes l.fn.owner l.owner;
  least : (caller_now l.owner).description 0 ≡ l.fn.op.least;
  deadline : (caller_now l.owner).description 1 ≡ l.fn.op.deadline;
  count : (caller_now l.owner).description 2 ≡ length l.needs;
  needs : AreDescribed l.needs l.i (caller_now l.owner).description;
}
