use Rattle.std.proofs.Common.{◌≡◌, length, arith}
use Rattle.kbytes.specs.Field.{groups}
use Rattle.kbatch.proofs.Sizes.{groups_one}
use Rattle.kbatch.proofs.size.nullable_size.Goals as goal

pub returns-in-None : goal.returns-in-None
returns-in-None c =
    let one : length (groups 4 1) ≡ 1 = groups_one 4 1 (omega arith) in
    rw c.in-None.is (omega (arith, one))
