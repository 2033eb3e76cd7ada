use Rattle.opcond.proofs.Tallies.{tally-rises}
use Rattle.opcond.proofs.laws.tally_rises.Goals as goal

pub returns : goal.returns
returns c needs before after h = tally-rises needs before after h.same h.higher
