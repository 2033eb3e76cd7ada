use Rattle.std.proofs.Common.{ℕ, arith}
use Rattle.std.proofs.lemmas.Grind.{common_steps}
use Rattle.std.proofs.lemmas.List.{length-set}
use Rattle.trace_file.proofs.digits.every_byte.Goals as goal

pub loop-byte-preserved : goal.loop-byte-preserved
loop-byte-preserved c = record {
  all = omega (arith, c.loop-byte.invariant.all, length-set {A = ℕ});
  each = λ k lt. grind (arith, common_steps, c.loop-byte.invariant.each k);
}
