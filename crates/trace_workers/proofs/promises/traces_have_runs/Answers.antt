use Rattle.trace_workers.proofs.EveryTrace.{traces_run}
use Rattle.trace_workers.proofs.promises.traces_have_runs.Goals as goal

pub returns : goal.returns
returns c = traces_run
