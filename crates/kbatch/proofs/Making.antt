-- The batch that is written of records is one of these records.
use Rattle.std.proofs.Common.{◌≡◌, ℕ, ◌+◌, ◌-◌, ◌^◌, ◌<◌, ◌≤◌, ℤ, pos, true, false, cond, List, [], ◌∷◌, ◌++◌, length, take, drop, map, fold, refl, sym, ap, ◌∙◌, arith}
use Rattle.std.specs.Prelude.{FitsSigned, int_lt}
use Rattle.std.specs.List.{AllByRecursion}
use Rattle.std.specs.Int.{w64, int_max}
use Rattle.std.proofs.lemmas.List.{take_at}
use Rattle.kbytes.specs.Field.{field, Uint32}
use Rattle.kbatch.specs.declared.record.Record.{Record}
use Rattle.kbatch.specs.Batch.{IsBatch, most_bytes}
use Rattle.kbatch.specs.Crc.{crc32c_of}
use Rattle.kbatch.specs.Head.{IsHead, head_bytes}
use Rattle.kbatch.specs.Record.{IsRecord, records_from}
use Rattle.kbatch.specs.Written.{greatest_time, plain_head, written_with, written, written_size}
use Rattle.kbatch.proofs.Lengths.{records_len}
use Rattle.kbatch.proofs.Places.{head_len}

max-fits : (a b : ℤ) → FitsSigned w64 a → FitsSigned w64 b → FitsSigned w64 (int_max a b)
max-fits a b first other = elim (int_lt b a) as (λ t. FitsSigned w64 (cond t a b)) [ true ↦ first | false ↦ other ]

fold-fits : (a : ℤ) (rs : List Record) → FitsSigned w64 a → AllByRecursion IsRecord rs → FitsSigned w64 (fold int_max a (map (λ r. r.time) rs))
fold-fits a [] first each = first
fold-fits a (r ∷ rs) first each = fold-fits (int_max a r.time) rs (max-fits a r.time first each.0.time) each.1

greatest-fits : (rs : List Record) → AllByRecursion IsRecord rs → FitsSigned w64 (greatest_time rs)
greatest-fits [] each = record { sfits = omega arith }
greatest-fits (r ∷ rs) each = fold-fits r.time rs each.0.time each.1

head-fits : (crc size count : ℕ) (latest : ℤ) → crc < 2 ^ 32 → size < 2 ^ 30 → count < 2 ^ 31 → FitsSigned w64 latest → IsHead (plain_head crc size count latest)
head-fits crc size count latest crc_fits size_fits count_fits latest_fits = record {
  base_offset = record { sfits = omega arith };
  batch_length = record { sfits = omega arith };
  leader_epoch = record { sfits = omega arith };
  magic = record { sfits = omega arith };
  crc = crc_fits;
  attributes = record { sfits = omega arith };
  last_offset_delta = record { sfits = omega arith };
  base_timestamp = record { sfits = omega arith };
  max_timestamp = latest_fits;
  producer_id = record { sfits = omega arith };
  producer_epoch = record { sfits = omega arith };
  base_sequence = record { sfits = omega arith };
  count = record { sfits = omega arith };
}

pub written_len : (crc : ℕ) (rs : List Record) → length (written_with crc rs) ≡ written_size rs
written_len crc rs = head_len (plain_head crc (length (records_from 0 rs)) (length rs) (greatest_time rs)) (records_from 0 rs)

crc_written : (crc : ℕ) (rs : List Record) → take 17 (written_with 0 rs) ++ (field (Uint32 crc) ++ drop 21 (written_with 0 rs)) ≡ written_with crc rs
unfolding head_bytes
crc_written crc rs = refl

tail_written : (crc : ℕ) (rs : List Record) → drop 21 (written_with crc rs) ≡ drop 21 (written_with 0 rs)
unfolding head_bytes
tail_written crc rs = refl

pub made : (rs : List Record) → AllByRecursion IsRecord rs → 0 < length rs → written_size rs ≤ most_bytes → crc32c_of (drop 21 (written_with 0 rs)) < 2 ^ 32 → IsBatch (written rs) rs
made rs each some most crc_fits =
    let crc : ℕ = crc32c_of (drop 21 (written_with 0 rs)) in
    let size : ℕ = length (records_from 0 rs) in
    let few = records_len 0 rs in
    let len = written_len crc rs in
    let whole : (49 + size) + 12 ≡ length (written_with crc rs) = omega arith in
    let last : (length rs - 1) + 1 ≡ length rs = omega arith in
    record {
      head = plain_head crc size (length rs) (greatest_time rs);
      in_range = head-fits crc size (length rs) (greatest_time rs) crc_fits (omega arith) (omega arith) (greatest-fits rs each);
      each = each;
      parts = refl;
      most = omega (arith, len, most);
      batch_length = ap pos whole;
      magic = refl;
      crc = ap crc32c_of (sym (tail_written crc rs));
      plain = refl;
      no_transaction = λ set. set refl;
      no_control = λ set. set refl;
      count = refl;
      some_record = some;
      last = ap pos last;
    }

-- the bytes that were lent, with the crc in its place
pub crc_put : (old new : List ℕ) (crc : ℕ) (rs : List Record) → old ≡ written_with 0 rs → length new ≡ length old → new ≡ take 17 old ++ (field (Uint32 crc) ++ drop 21 old) → crc ≡ crc32c_of (drop 21 old) → take (length old) (new ++ drop (length new) old) ≡ written rs
crc_put old new crc rs is len put covered =
    take_at new (drop (length new) old) (length old) len ∙ put
    ∙ ap (λ (l : List ℕ). take 17 l ++ (field (Uint32 crc) ++ drop 21 l)) is ∙ crc_written crc rs
    ∙ ap (λ n. written_with n rs) (covered ∙ ap (λ (l : List ℕ). crc32c_of (drop 21 l)) is)
