use Rattle.session.proofs.Going.{looked_self}
use Rattle.session.proofs.answers.Room.rest.Goals as goal

pub returns-else-moment-deadline-clause-looked : goal.returns-else-moment-deadline-clause-looked
returns-else-moment-deadline-clause-looked g c = looked_self c.rest-moment.new.pass.told c.args.pass.now
