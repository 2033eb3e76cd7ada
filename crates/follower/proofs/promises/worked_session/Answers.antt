use Rattle.follower.proofs.WorkedSession.{body, following, turned_so}
use Rattle.follower.proofs.promises.worked_session.Goals as goal

pub returns : goal.returns
returns c = (body, following, turned_so)
