use Rattle.purgatory.proofs.scans.Goes.{goes_far}
use Rattle.purgatory.proofs.scans.inspector.Inspector.learn_all.Goals as goal

pub returns-clause-went : goal.returns-clause-went
returns-clause-went c = goes_far c.args.self.now c.learn_more.new.self c.learn_more-2.new.self c.learn_more.ensures.went c.learn_more-2.ensures.went
