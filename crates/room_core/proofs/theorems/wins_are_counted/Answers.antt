use Rattle.room_core.proofs.Counts.{wins_counted}
use Rattle.room_core.proofs.theorems.wins_are_counted.Goals as goal

pub returns : goal.returns
returns c = wins_counted
