use Rattle.audit.proofs.ResultsStand.{steps_results}
use Rattle.audit.proofs.promises.results_stand.Goals as goal

pub returns : goal.returns
returns c = steps_results
