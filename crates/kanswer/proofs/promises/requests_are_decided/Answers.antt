use Rattle.kanswer.proofs.Decided.{requests_decided}
use Rattle.kanswer.proofs.promises.requests_are_decided.Goals as goal

pub returns : goal.returns
returns c = requests_decided
