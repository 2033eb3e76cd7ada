use Rattle.outside.proofs.shared.queue.Keeping.{learns}
use Rattle.outside.proofs.shared.queue.link_queue.LinkQueue.settle.Goals as goal

pub learn_as-requires-clause-rule : goal.learn_as-requires-clause-rule
learn_as-requires-clause-rule g c = learns g.N.Condition.fits _ _
