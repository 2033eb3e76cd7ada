use Rattle.std.proofs.Common.{◌+◌, ◌*◌, ◌<◌, length, slice_index, arith}
use Rattle.hex.proofs.Pairs.{decode_start}
use Rattle.trace_file.proofs.DigitTables.{sums_on, sums_end}
use Rattle.trace_file.proofs.digit_values.DigitValues.decode.Goals as goal

pub bytes-init : goal.bytes-init
bytes-init c = record { good = λ small. decode_start c.args.digits.now c.args.out.now; bad = λ great. absurd (omega (arith, great)) }

pub bytes-preserved : goal.bytes-preserved
bytes-preserved c =
    let values = c.args.self.now.right in
    let digits = c.args.digits.now in
    let i = c.bytes.i in
    let h = slice_index digits (2 * i) in
    let l = slice_index digits (2 * i + 1) in
    let fits : 2 * i + 1 < length digits = omega (arith, c.requires, c.bytes-test.true) in
    let on = sums_on digits c.bytes.out i c.bytes.seen _ _ fits (omega (arith, c.bytes.auto.out, c.bytes-test.true)) (values.each_high h (omega (arith, c.type_inv.digits (2 * i))))
    (values.each_low l (omega (arith, c.type_inv.digits (2 * i + 1)))) c.bytes.invariant.good c.bytes.invariant.bad
    in record { good = on.0; bad = on.1 }

pub returns : goal.returns
returns c =
    sums_end c.args.digits.now c.bytes.out c.bytes.i c.bytes.seen (omega (arith, c.bytes.auto.out, c.bytes-test.false)) (omega (arith, c.requires, c.bytes-test.false)) (omega (arith, c.requires))
    c.bytes.invariant.good c.bytes.invariant.bad
