use Rattle.room_core.proofs.Steps.{begins, runs_keep}
use Rattle.room_core.proofs.theorems.runs_are_sound.Goals as goal

pub returns-clause-start : goal.returns-clause-start
returns-clause-start c = begins

pub returns-clause-run : goal.returns-clause-run
returns-clause-run c = runs_keep
