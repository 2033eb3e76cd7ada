-- The partition of a gauge.
use Rattle.std.proofs.Common.{◌≡◌, ℕ, ◌+◌, ◌*◌, ◌/◌, ◌<◌, ℤ, pos, negsuc, ap, arith, ◌∙◌}
use Rattle.std.proofs.lemmas.Nat.{div-mul-add}
use Rattle.kanswer.specs.PartitionGauges.{fetched_gauge, high_gauge}

one_of : (part kind : ℕ) → kind < 3 → (3 * part + kind) / 3 ≡ part
one_of part kind lt = ap (λ n. n / 3) (omega arith) ∙ div-mul-add part 3 kind lt

pub produce_part : (part : ℕ) → high_gauge part / 3 ≡ part
produce_part part = ap (λ n. n / 3) (omega arith) ∙ one_of part 0 (omega arith)

pub fetch_part : (replica : ℤ) (part : ℕ) → fetched_gauge replica part / 3 ≡ part
fetch_part (pos n) part = one_of part 2 (omega arith)
fetch_part (negsuc n) part = one_of part 1 (omega arith)
