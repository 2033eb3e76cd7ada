use Rattle.room_core.proofs.Laws.{winner_below}
use Rattle.room_core.proofs.theorems.winners_are_few.Goals as goal

pub returns : goal.returns
returns c = winner_below
