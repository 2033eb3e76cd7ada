use Rattle.std.proofs.Common.{ℕ, Vec, Global, ap, ◌∙◌}
use Rattle.trace_file.proofs.DigitTables.{pairs_made}
use Rattle.trace_file.proofs.digits.Digits.make.Goals as goal

pub invariant_of-result : goal.invariant_of-result
invariant_of-result c =
    let made = ap (λ (v : Vec ℕ Global). v.items) c.into_bytes.ensures.value ∙ c.in_ok-digits.ensures in
    pairs_made c.every_byte.result c.into_bytes.result.items c.every_byte.ensures.all c.every_byte.ensures.each made
