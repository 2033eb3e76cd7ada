use Rattle.audit.proofs.Prints.{looks_stand}
use Rattle.audit.proofs.promises.looks_stand.Goals as goal

pub returns : goal.returns
returns c = looks_stand
