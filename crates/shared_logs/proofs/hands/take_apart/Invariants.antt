use Rattle.std.proofs.Common.{◌≡◌, ◌++◌, length}
use Rattle.shared_logs.specs.Apart.{AreJoined, gathered}
use Rattle.shared_logs.proofs.hands.take_apart.Given as goal

abbrev pub invariant-loop-pass : goal.invariant-loop-pass
invariant-loop-pass l = record {
  all : l.fn.passes ≡ l.passes ++ gathered l.seats l.hands;
  joined : AreJoined l.seats l.hands;
}

abbrev pub decreases-loop-pass : goal.decreases-loop-pass
decreases-loop-pass l = length l.passes
