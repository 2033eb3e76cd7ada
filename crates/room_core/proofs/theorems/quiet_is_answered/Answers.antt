use Rattle.room_core.proofs.Quiets.{unsatisfied, in_time}
use Rattle.room_core.proofs.theorems.quiet_is_answered.Goals as goal

pub returns-clause-tally : goal.returns-clause-tally
returns-clause-tally c = unsatisfied

pub returns-clause-time : goal.returns-clause-time
returns-clause-time c = in_time
