use Rattle.room_core.proofs.Steps.{keeps}
use Rattle.room_core.proofs.theorems.event_keeps.Goals as goal

pub returns : goal.returns
returns c = keeps
