use Rattle.outside.proofs.shared.queue.Keeping.{merges}
use Rattle.outside.proofs.shared.queue.link_queue.LinkQueue.absorb.Goals as goal

pub absorb-requires-clause-rule : goal.absorb-requires-clause-rule
absorb-requires-clause-rule g c = merges g.N.Condition.fits _ _ _ _ c.pass.invariant.1
