use Rattle.timing_wheel.proofs.Levels.{near_level, lower_ends}
use Rattle.timing_wheel.proofs.laws.level_exists.Goals as goal

pub returns-clause-level : goal.returns-clause-level
returns-clause-level c = (near_level c.args.timer (record { past = c.requires.past; near = c.requires.near })).0

pub returns-clause-reaches : goal.returns-clause-reaches
returns-clause-reaches c = (near_level c.args.timer (record { past = c.requires.past; near = c.requires.near })).1

pub returns-clause-least : goal.returns-clause-least
returns-clause-least c = λ lower h. lower_ends c.args.timer lower h
