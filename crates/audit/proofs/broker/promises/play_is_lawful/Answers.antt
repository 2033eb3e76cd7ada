use Rattle.audit.proofs.broker.Resting.{play_is_lawful}
use Rattle.audit.proofs.broker.promises.play_is_lawful.Goals as goal

pub returns : goal.returns
returns c = play_is_lawful
