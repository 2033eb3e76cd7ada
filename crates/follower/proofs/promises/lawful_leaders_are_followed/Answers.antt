use Rattle.follower.proofs.Followed.{followed_copied, followed_refused}
use Rattle.follower.proofs.promises.lawful_leaders_are_followed.Goals as goal

pub returns-clause-prefix : goal.returns-clause-prefix
returns-clause-prefix c = followed_copied

pub returns-clause-refused : goal.returns-clause-refused
returns-clause-refused c = λ account session rounds old new fault before now did short f. (followed_refused account session rounds old new fault before now did short f).0

pub returns-clause-empty : goal.returns-clause-empty
returns-clause-empty c = λ account session rounds old new fault before now did short f. (followed_refused account session rounds old new fault before now did short f).1
