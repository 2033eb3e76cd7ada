use Rattle.trace_workers.proofs.Resting.{rested}
use Rattle.trace_workers.proofs.session_promises.resting_sessions_fit.Goals as goal

pub returns : goal.returns
returns c = rested
