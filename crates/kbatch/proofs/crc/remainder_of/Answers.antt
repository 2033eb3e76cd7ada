use Rattle.std.proofs.Common.{◌<◌, arith}
use Rattle.kbatch.proofs.Table.{entry-is}
use Rattle.kbatch.proofs.crc.remainder_of.Goals as goal

pub returns : goal.returns
returns c =
    let low : c.args.byte < 256 = omega arith in
    entry-is _ c.args.zeros c.args.byte c.requires low
