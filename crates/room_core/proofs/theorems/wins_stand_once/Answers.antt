use Rattle.room_core.proofs.Once.{stands, nowhere_else, taken_stands, taken_nowhere_else}
use Rattle.room_core.proofs.theorems.wins_stand_once.Goals as goal

pub returns-clause-mine : goal.returns-clause-mine
returns-clause-mine c = stands

pub returns-clause-others : goal.returns-clause-others
returns-clause-others c s h pass how by won = nowhere_else s h pass how by won

pub returns-clause-taken : goal.returns-clause-taken
returns-clause-taken c = taken_stands

pub returns-clause-taken_by_others : goal.returns-clause-taken_by_others
returns-clause-taken_by_others c = taken_nowhere_else
