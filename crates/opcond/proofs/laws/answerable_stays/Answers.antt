use Rattle.std.proofs.Common.{arith}
use Rattle.opcond.proofs.Tallies.{tally-rises}
use Rattle.opcond.proofs.laws.answerable_stays.Goals as goal

pub returns-clause-satisfied : goal.returns-clause-satisfied
returns-clause-satisfied c op before after h s = omega (arith, s, tally-rises op.needs before after h.same h.higher)
