use Rattle.opcond.proofs.Tallies.{tally-set}
use Rattle.opcond.proofs.laws.one_part_changes.Goals as goal

pub returns : goal.returns
returns c = tally-set
