use Rattle.shared_broker.proofs.Laws.{caught_up_still}
use Rattle.trace_workers.proofs.stored.find_stored.Goals as goal

pub returns-in_err-topic-clause-others : goal.returns-in_err-topic-clause-others
returns-in_err-topic-clause-others g c = caught_up_still c.args.pass.now

pub returns-then-head-frame-clause-others : goal.returns-then-head-frame-clause-others
returns-then-head-frame-clause-others g c = caught_up_still c.args.pass.now

pub returns-in_err-offset-clause-others : goal.returns-in_err-offset-clause-others
returns-in_err-offset-clause-others g c = caught_up_still c.args.pass.now
