use Rattle.std.proofs.Common.{◌*◌, arith, sym}
use Rattle.kbatch.proofs.Sizes.{groups_all}
use Rattle.kbatch.proofs.size.length_size.Goals as goal

pub returns-else-number-clause-size : goal.returns-else-number-clause-size
returns-else-number-clause-size c = sym (groups_all (2 * c.args.number) (omega (arith, c.if-number.false)))
