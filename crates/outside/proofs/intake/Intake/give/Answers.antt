use Rattle.std.proofs.Common.{take-add}
use Rattle.outside.proofs.intake.Intake.give.Goals as goal

pub returns-clause-taken : goal.returns-clause-taken
returns-clause-taken c = rw (← c.self.view_is) (take-add c.self.inside.at c.copy_front-count.result c.self.inside.bytes)
