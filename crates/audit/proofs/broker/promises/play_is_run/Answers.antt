use Rattle.audit.proofs.broker.RunOfLines.{play_is_run}
use Rattle.audit.proofs.broker.promises.play_is_run.Goals as goal

pub returns : goal.returns
returns c = play_is_run
