use Rattle.audit.proofs.Bounded.{logs_bounded}
use Rattle.audit.proofs.promises.lawful_logs_are_bounded.Goals as goal

pub returns : goal.returns
returns c = logs_bounded
