use Rattle.trace_workers.proofs.WorkerRun.{worker_run}
use Rattle.trace_workers.proofs.promises.joined_accounts_are_runs.Goals as goal

pub returns : goal.returns
returns c = worker_run
