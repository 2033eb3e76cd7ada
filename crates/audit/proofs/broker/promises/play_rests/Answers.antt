use Rattle.audit.proofs.broker.Resting.{play_rests}
use Rattle.audit.proofs.broker.promises.play_rests.Goals as goal

pub returns : goal.returns
returns c = play_rests
