use Rattle.std.proofs.Common.{◌<◌, arith}
use Rattle.kbatch.proofs.Slices.{one-added}
use Rattle.kbatch.proofs.crc.after_byte.Goals as goal

pub returns : goal.returns
returns c =
    let low : c.args.byte < 256 = omega arith in
    rw (c.remainder_of.ensures, c.from.ensures) (one-added c.args.remainder c.args.byte low)
