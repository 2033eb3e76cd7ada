use Rattle.std.proofs.Common.{◌<◌, ◌≤◌, ◌++◌, ℕ, List, length, take, drop, sym, ap, subst, ◌∙◌, rules, arith}
use Rattle.kbytes.specs.Field.{field, Uint32}
use Rattle.kbatch.specs.Batch.{IsBatch, most_bytes}
use Rattle.kbatch.specs.Crc.{crc32c_of}
use Rattle.kbatch.specs.Written.{written_size}
use Rattle.kbatch.proofs.Making.{made, written_len, crc_put}
use Rattle.kbatch.proofs.write.write_batch.Goals as goal

pub split_at-requires : goal.split_at-requires
split_at-requires c = omega (arith, ap length (c.as_slice.ensures ∙ c.in_ok-bytes.ensures), written_len 0 c.args.records.now)

pub write_crc-requires : goal.write_crc-requires
write_crc-requires c = omega (arith, ap length (c.as_mut_slice.ensures.value ∙ c.in_ok-bytes.ensures), written_len 0 c.args.records.now)

pub returns-clause-batch : goal.returns-clause-batch
returns-clause-batch c =
    let rs = c.args.records.now in
    let some : 0 < length rs = search rules in
    let most : written_size rs ≤ most_bytes = omega (arith, c.records_size.ensures.size, c.saturating_add-bytes.ensures) in
    let covered = c.crc32c-crc.ensures ∙ ap crc32c_of (c.split_at.ensures.back ∙ ap (λ (l : List ℕ). drop 21 l) (c.as_slice.ensures ∙ c.in_ok-bytes.ensures)) in
    made rs c.records_size.ensures.each some most (omega (arith, covered, c.crc32c-crc.type_inv))

pub whole-requires : goal.whole-requires
whole-requires c =
    let rs = c.args.records.now in
    let some : 0 < length rs = search rules in
    let most : written_size rs ≤ most_bytes = omega (arith, c.records_size.ensures.size, c.saturating_add-bytes.ensures) in
    let mine = c.as_mut_slice.ensures.value in
    let put = c.write_crc.ensures ∙ ap (λ (l : List ℕ). take 17 l ++ (field (Uint32 c.crc32c-crc.result) ++ drop 21 l)) mine in
    let covered = c.crc32c-crc.ensures ∙ ap crc32c_of (c.split_at.ensures.back ∙ ap (λ (l : List ℕ). drop 21 l) c.as_slice.ensures) in
    let whole = crc_put c.in_ok-bytes.bytes c.write_crc.new.bytes c.crc32c-crc.result rs c.in_ok-bytes.ensures (c.write_crc.auto.bytes ∙ ap length mine) put covered in
    let crc = covered ∙ ap (λ (l : List ℕ). crc32c_of (drop 21 l)) c.in_ok-bytes.ensures in
    (rs, subst (λ (b : List ℕ). IsBatch b rs) (sym whole) (made rs c.records_size.ensures.each some most (omega (arith, crc, c.crc32c-crc.type_inv))))

pub returns-clause-bytes : goal.returns-clause-bytes
returns-clause-bytes c =
    let old = c.in_ok-bytes.bytes in
    let mine = c.as_mut_slice.ensures.value in
    let put = c.write_crc.ensures ∙ ap (λ (l : List ℕ). take 17 l ++ (field (Uint32 c.crc32c-crc.result) ++ drop 21 l)) mine in
    let covered = c.crc32c-crc.ensures ∙ ap crc32c_of (c.split_at.ensures.back ∙ ap (λ (l : List ℕ). drop 21 l) c.as_slice.ensures) in
    c.whole.ensures ∙ crc_put old c.write_crc.new.bytes c.crc32c-crc.result c.args.records.now c.in_ok-bytes.ensures (c.write_crc.auto.bytes ∙ ap length mine) put covered
