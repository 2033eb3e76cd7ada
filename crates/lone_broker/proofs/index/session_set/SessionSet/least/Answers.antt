use Rattle.std.proofs.Common.{arith}
use Rattle.lone_broker.proofs.index.Logic.{IfNone-weaker}
use Rattle.lone_broker.proofs.index.session_set.SessionSet.least.Goals as goal

pub returns-clause-none : goal.returns-clause-none
returns-clause-none c = IfNone-weaker c.least_from.result (λ all session. all session (omega arith)) c.least_from.ensures.none
