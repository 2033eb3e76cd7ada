use Rattle.std.proofs.Common.{◌≡◌, ◌++◌, length, reverse}
use Rattle.lone_broker.proofs.closing.reversed.Given as goal

abbrev pub invariant-loop-pass : goal.invariant-loop-pass
invariant-loop-pass l = l.turned ++ reverse l.passes ≡ reverse l.initial.passes

abbrev pub decreases-loop-pass : goal.decreases-loop-pass
decreases-loop-pass l = length l.passes
