use Rattle.std.proofs.Common.{length}
use Rattle.follower.specs.Checking.{HasReached}
use Rattle.follower.proofs.batches.check_batches.Given as goal

abbrev pub invariant-loop-rest : goal.invariant-loop-rest
invariant-loop-rest l = HasReached l.from l.records l.count l.end l.rest

abbrev pub decreases-loop-rest : goal.decreases-loop-rest
decreases-loop-rest l = length l.rest
