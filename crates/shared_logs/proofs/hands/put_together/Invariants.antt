use Rattle.std.proofs.Common.{◌≡◌, ◌++◌, length}
use Rattle.shared_logs.specs.Apart.{AreJoined, gathered}
use Rattle.shared_logs.proofs.hands.put_together.Given as goal

abbrev pub invariant-loop-room : goal.invariant-loop-room
invariant-loop-room l = record {
  all : l.fn.passes ++ gathered l.fn.seats l.fn.hands ≡ l.passes ++ gathered l.seats l.hands;
  joined : AreJoined l.seats l.hands;
}

abbrev pub decreases-loop-room : goal.decreases-loop-room
decreases-loop-room l = length l.seats
