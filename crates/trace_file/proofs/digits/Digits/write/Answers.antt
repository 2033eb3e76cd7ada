use Rattle.std.proofs.Common.{◌<◌, ℕ, get_or, arith, subst, sym}
use Rattle.hex.proofs.Pairs.{encode_step, encode_done}
use Rattle.hex.specs.Hex.{lower_digits}
use Rattle.trace_file.specs.DigitTables.{ArePairs}
use Rattle.trace_file.proofs.DigitTables.{two_digits}
use Rattle.trace_file.proofs.digits.Digits.write.Goals as goal

pub bytes-preserved : goal.bytes-preserved
bytes-preserved c =
    let byte : ℕ = get_or c.args.bytes.now c.bytes.i 0 in
    let low : byte < 256 = omega (arith, c.type_inv.bytes c.bytes.i) in
    let two = two_digits c.as_slice-pairs.result.now byte (subst ArePairs (sym c.as_slice-pairs.ensures.value) c.self.invariant) low in
    encode_step lower_digits c.args.bytes.now c.bytes.out c.bytes.i _ _ (omega arith) (omega arith) two.0 two.1 c.bytes.invariant

pub returns : goal.returns
returns c = encode_done _ _ _ c.bytes.i (omega arith) (omega arith) c.bytes.invariant
