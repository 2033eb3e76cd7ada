use Rattle.follower.proofs.Prefixes.{taken_on}
use Rattle.follower.proofs.promises.copies_stay_prefixes.Goals as goal

pub returns : goal.returns
returns c = λ batches end copy new correlation body count all is taken run. taken_on batches end copy new correlation body count all is taken run
