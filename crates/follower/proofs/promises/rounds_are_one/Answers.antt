use Rattle.follower.proofs.Going.{one_course}
use Rattle.follower.proofs.promises.rounds_are_one.Goals as goal

pub returns : goal.returns
returns c = one_course
