-- How many bytes there are at least.
use Rattle.std.proofs.Common.{ℕ, zero, suc, ◌+◌, ◌%◌, ◌/◌, ◌<◌, ◌≤◌, true, false, cond, ltb, List, [], ◌∷◌, length, arith, pos, Some}
use Rattle.std.proofs.lemmas.List.{length-append}
use Rattle.kbytes.specs.Field.{groups, zigzag}
use Rattle.kbatch.specs.declared.record.Record.{Record}
use Rattle.kbatch.specs.Record.{sized, record_bytes, records_from, body_bytes}

groups_some : (more n : ℕ) → 1 ≤ length (groups more n)
unfolding groups
groups_some zero n = omega arith
groups_some (suc more) n = elim (ltb n 128) as (λ b. 1 ≤ length (cond b (n ∷ []) ((n % 128 + 128) ∷ groups more (n / 128)))) [ true ↦ omega arith | false ↦ omega arith ]

-- a length of its own stands before the bytes
pub sized_len : (bytes : List ℕ) → length bytes < length (sized (Some bytes))
sized_len bytes = omega (arith, length-append (groups 4 (zigzag (pos (length bytes)))) bytes, groups_some 4 (zigzag (pos (length bytes))))

pub records_len : (delta : ℕ) (rs : List Record) → length rs ≤ length (records_from delta rs)
records_len delta [] = omega arith
records_len delta (r ∷ rs) =
    omega (arith, length-append (record_bytes delta r) (records_from (suc delta) rs), sized_len (body_bytes delta r), records_len (suc delta) rs)
