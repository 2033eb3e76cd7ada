use Rattle.outside.proofs.shared.queue.Keeping.{learns, takes}
use Rattle.outside.proofs.shared.queue.link_queue.LinkQueue.pop.Goals as goal

pub pop_as-requires-clause-rule : goal.pop_as-requires-clause-rule
pop_as-requires-clause-rule g c = (takes g.N.Condition.fits _ _ c.pass.invariant.1, λ items views b at. (learns g.N.Condition.fits _ _ items views b at).0)
