-- Bytes are a batch, or one fault is their first.
use Rattle.std.proofs.Common.{◌≡◌, ◌≢◌, ◌⊎◌, ℕ, zero, suc, ◌+◌, ◌^◌, ◌<◌, ◌≤◌, ℤ, pos, negsuc, ◌+ℤ◌, ◌<ℤ◌, List, [], ◌∷◌, ◌++◌, length, take, drop, Option, Some, None, refl, sym, ap, ◌∙◌, arith, inl, inr, append-nil, length-append}
use Rattle.std.proofs.lemmas.Bool.{cases_Bool, cases_lt, cases_eq, true≢false}
use Rattle.std.proofs.lemmas.Bool.Decides.{Decides-int_eq}
use Rattle.std.proofs.lemmas.Int.{of_z-to_z, ints}
use Rattle.std.proofs.lemmas.List.{length-drop}
use Rattle.std.specs.List.{AllByRecursion}
use Rattle.std.specs.Ordering.{int_eq}
use Rattle.std.specs.Int.{w32, cast_unsigned, IsBitSet}
use Rattle.std.specs.Int.Bits.{bit_and}
use Rattle.kbytes.specs.Octets.{IsBytes}
use Rattle.kbytes.proofs.Laws.{IsBytes-drop, IsBytes-take, wide_32}
use Rattle.kbatch.specs.declared.fault.BatchFault.{BatchFault}
use Rattle.kbatch.specs.declared.fault.BatchFault.TheVariants.{TooLarge, Short, Length, Magic, Crc, Compressed, Control, Count, Records}
use Rattle.kbatch.specs.declared.record.Record.{Record}
use Rattle.kbatch.specs.Crc.{crc32c_of}
use Rattle.kbatch.specs.Record.{IsRecord, record_bytes, records_from}
use Rattle.kbatch.specs.Batch.{IsBatch, most_bytes, codec_of}
use Rattle.kbatch.specs.Kept.{kept_length, kept_magic, kept_crc, kept_attributes, kept_last, kept_count, count_of}
use Rattle.kbatch.specs.Fault.{NoRecord, StopsAt, Applies, order, NoneBefore, IsFirstFault}
use Rattle.kbatch.specs.Walk.{after_record}
use Rattle.kbatch.proofs.Lengths.{records_len}
use Rattle.kbatch.proofs.Parts.{then, tail_fits, record_takes, record_again}
use Rattle.kbatch.proofs.Records.{each_more, records_more}
use Rattle.kbatch.proofs.Faults.{batch_from}

-- ---- either one or the other

same_int : (a b : ℤ) → (a ≡ b) ⊎ (a ≢ b)
same_int a b =
    elim (cases_Bool (int_eq a b)) [
      | inl same ↦ inl ((Decides-int_eq a b).0 same)
      | inr differs ↦ inr (λ e. true≢false (sym ((Decides-int_eq a b).1 e) ∙ differs))
    ]

-- a number of records, or none that a header may tell
data Counts (z : ℤ) : Type 0 where
  some : (n : ℕ) → z ≡ pos n → 1 ≤ n → Counts z
  few : z <ℤ pos 1 → Counts z

counts : (z : ℤ) → Counts z
counts (pos zero) = few (omega (arith, ints))
counts (pos (suc n)) = some (suc n) refl (omega arith)
counts (negsuc n) = few (omega (arith, ints))

-- ---- the order

none_yet : (bytes : List ℕ) (f : BatchFault) → order f < 1 → ¬ Applies bytes f
none_yet bytes (TooLarge len) lt a = omega (arith, lt)
none_yet bytes f lt a = omega (arith, lt)

none_more : (bytes : List ℕ) (n : ℕ) → NoneBefore n bytes → ((f : BatchFault) → order f ≡ n → ¬ Applies bytes f) → NoneBefore (suc n) bytes
none_more bytes n before here = λ f lt a. elim (cases_lt (order f) n) [ inl less ↦ before f less a | inr least ↦ here f (omega (arith, lt, least)) a ]

not_large : (bytes : List ℕ) → length bytes ≤ most_bytes → (f : BatchFault) → order f ≡ 1 → ¬ Applies bytes f
not_large bytes most (TooLarge len) same a = omega (arith, a.1, most)
not_large bytes most f same a = absurd (omega (arith, same))

not_short : (bytes : List ℕ) → 61 ≤ length bytes → (f : BatchFault) → order f ≡ 2 → ¬ Applies bytes f
not_short bytes least Short same a = omega (arith, a, least)
not_short bytes least f same a = absurd (omega (arith, same))

not_length : (bytes : List ℕ) → kept_length bytes +ℤ pos 12 ≡ pos (length bytes) → (f : BatchFault) → order f ≡ 3 → ¬ Applies bytes f
not_length bytes is (Length kept) same a = a.1 (ap (λ (z : ℤ). z +ℤ pos 12) a.0 ∙ is)
not_length bytes is f same a = absurd (omega (arith, same))

not_magic : (bytes : List ℕ) → kept_magic bytes ≡ pos 2 → (f : BatchFault) → order f ≡ 4 → ¬ Applies bytes f
not_magic bytes is (Magic found) same a = a.1 (a.0 ∙ is)
not_magic bytes is f same a = absurd (omega (arith, same))

not_crc : (bytes : List ℕ) → kept_crc bytes ≡ crc32c_of (drop 21 bytes) → (f : BatchFault) → order f ≡ 5 → ¬ Applies bytes f
not_crc bytes is (Crc kept found) same a = a.2 (a.0 ∙ is ∙ sym a.1)
not_crc bytes is f same a = absurd (omega (arith, same))

not_compressed : (bytes : List ℕ) → codec_of (kept_attributes bytes) ≡ 0 → (f : BatchFault) → order f ≡ 6 → ¬ Applies bytes f
not_compressed bytes is (Compressed codec) same a = a.1 (a.0 ∙ is)
not_compressed bytes is f same a = absurd (omega (arith, same))

not_control : (bytes : List ℕ) → ¬ IsBitSet (kept_attributes bytes) 4 → ¬ IsBitSet (kept_attributes bytes) 5 → (f : BatchFault) → order f ≡ 7 → ¬ Applies bytes f
not_control bytes one two Control same a = elim a [ inl set ↦ one set | inr set ↦ two set ]
not_control bytes one two f same a = absurd (omega (arith, same))

not_count : (bytes : List ℕ) (n : ℕ) → kept_count bytes ≡ pos n → 1 ≤ n → kept_last bytes +ℤ pos 1 ≡ pos n → (f : BatchFault) → order f ≡ 8 → ¬ Applies bytes f
not_count bytes n is some_record last (Count count delta) same a =
    elim a.2 [
      | inl below ↦ omega (arith, ints, a.0, is, some_record, below)
      | inr differs ↦ differs (ap (λ (z : ℤ). z +ℤ pos 1) a.1 ∙ last ∙ sym is ∙ sym a.0)
    ]
not_count bytes n is some_record last f same a = absurd (omega (arith, same))

-- ---- the records

-- so many records stand after the header, and nothing else
abbrev Stand : List ℕ → Type 0
Stand bytes = (records : List Record) × AllByRecursion IsRecord records × (length records ≡ count_of bytes) × (drop 61 bytes ≡ records_from 0 records)

abbrev Ends : List ℕ → Type 0
Ends bytes = Stand bytes ⊎ ((at : ℕ) × StopsAt bytes at)

-- a record stands at the front, or none
abbrev Opens : ℕ → List ℕ → Type 0
Opens delta rest = ((r : Record) × (after : List ℕ) × IsRecord r × (rest ≡ record_bytes delta r ++ after)) ⊎ NoRecord delta rest

opens_by : (delta : ℕ) (rest : List ℕ) (read : Option (List ℕ)) → IsBytes rest → delta < 2 ^ 31 → length rest < 2 ^ 31 → after_record delta rest ≡ read → Opens delta rest
opens_by delta rest (Some after) fits delta_lt short e = let r = record_takes delta rest after fits e in inl (r.0, after, r.1, r.2)
opens_by delta rest None fits delta_lt short e =
    inr (λ r after is spelled.
    let read : after_record delta rest ≡ Some after = ap (after_record delta) spelled ∙ record_again delta r after delta_lt is (omega (arith, ap length spelled, short)) in
    absurd cc)

module _ (bytes : List ℕ) (fits : IsBytes bytes) (least : 61 ≤ length bytes) (most : length bytes ≤ most_bytes) where
  left_len : (before : List Record) (rest : List ℕ) → drop 61 bytes ≡ records_from 0 before ++ rest → 61 + (length before + length rest) ≤ length bytes
  left_len before rest parts = omega (arith, length-drop 61 bytes, ap length parts, length-append (records_from 0 before) rest, records_len 0 before, least)

  opens : (before : List Record) (rest : List ℕ) → drop 61 bytes ≡ records_from 0 before ++ rest → Opens (length before) rest
  opens before rest parts =
      let len = left_len before rest parts in
      opens_by (length before) rest (after_record (length before) rest) (tail_fits (drop 61 bytes) (records_from 0 before) rest parts (IsBytes-drop 61 bytes fits)) (omega (arith, len, most)) (omega (arith, len, most)) refl

  ends : (more : ℕ) (before : List Record) (rest : List ℕ) → AllByRecursion IsRecord before → length before + more ≡ count_of bytes → drop 61 bytes ≡ records_from 0 before ++ rest → Ends bytes
  ends zero before [] each total parts = inl (before, each, omega (arith, total), parts ∙ append-nil (records_from 0 before))
  ends zero before (b ∷ rest) each total parts =
      inr (61 + length (records_from 0 before), record { before = before; each = each; rest = b ∷ rest; parts = parts; place = refl; why = inr (omega (arith, total), λ e. absurd cc) })
  ends (suc more) before rest each total parts =
      elim (opens before rest parts) [
        | inl first ↦
            let here : records_from 0 (before ++ first.0 ∷ []) ≡ records_from 0 before ++ record_bytes (length before) first.0 =
            records_more 0 before first.0 ∙ ap (λ (n : ℕ). records_from 0 before ++ record_bytes n first.0) (omega arith) in
            ends more (before ++ first.0 ∷ []) first.1 (each_more before first.0 each first.2) (omega (arith, length-append before (first.0 ∷ []), total))
            (then (drop 61 bytes) (records_from 0 before) rest (record_bytes (length before) first.0) first.1 parts first.3 ∙ ap (λ (xs : List ℕ). xs ++ first.1) (sym here))
        | inr none ↦
            inr (61 + length (records_from 0 before), record { before = before; each = each; rest = rest; parts = parts; place = refl; why = inl (omega (arith, total), none) })
      ]

-- ---- check by check

-- a batch, or a first fault
abbrev pub IsJudged : List ℕ → Type 0
IsJudged bytes = ((records : List Record) × IsBatch bytes records) ⊎ ((fault : BatchFault) × IsFirstFault bytes fault)

count_is : (bytes : List ℕ) (n : ℕ) → IsBytes bytes → kept_count bytes ≡ pos n → count_of bytes ≡ n
unfolding kept_count count_of
count_is bytes n fits is = sym (of_z-to_z w32 (count_of bytes) (wide_32.below (take 4 (drop 57 bytes)) (IsBytes-take 4 (drop 57 bytes) (IsBytes-drop 57 bytes fits)))) ∙ ap (cast_unsigned w32) is

module _ (bytes : List ℕ) (fits : IsBytes bytes) (least : 61 ≤ length bytes) (most : length bytes ≤ most_bytes) where
  judged_records : (n : ℕ) → kept_length bytes +ℤ pos 12 ≡ pos (length bytes) → kept_magic bytes ≡ pos 2 → kept_crc bytes ≡ crc32c_of (drop 21 bytes) → codec_of (kept_attributes bytes) ≡ 0
      → ¬ IsBitSet (kept_attributes bytes) 4 → ¬ IsBitSet (kept_attributes bytes) 5 → kept_count bytes ≡ pos n → 1 ≤ n → kept_last bytes +ℤ pos 1 ≡ pos n → NoneBefore 9 bytes → IsJudged bytes
  judged_records n len magic crc codec four five count some_record last before =
      elim (ends bytes fits least most (count_of bytes) [] (drop 61 bytes) tt (omega arith) refl) [
        | inl all ↦ inl (all.0, batch_from bytes n all.0 fits least most len magic crc codec four five count some_record last all.1 (all.2 ∙ count_is bytes n fits count) all.3)
        | inr stops ↦ inr (Records stops.0, (stops.1, before))
      ]

  judged_count : kept_length bytes +ℤ pos 12 ≡ pos (length bytes) → kept_magic bytes ≡ pos 2 → kept_crc bytes ≡ crc32c_of (drop 21 bytes) → codec_of (kept_attributes bytes) ≡ 0
      → ¬ IsBitSet (kept_attributes bytes) 4 → ¬ IsBitSet (kept_attributes bytes) 5 → NoneBefore 8 bytes → IsJudged bytes
  judged_count len magic crc codec four five before =
      elim (counts (kept_count bytes)) [
        | some n is some_record ↦ elim (same_int (kept_last bytes +ℤ pos 1) (pos n)) [
          | inl last ↦ judged_records n len magic crc codec four five is some_record last (none_more bytes 8 before (not_count bytes n is some_record last))
          | inr differs ↦ inr (Count (kept_count bytes) (kept_last bytes), ((refl, refl, inr (λ e. differs (e ∙ is))), before))
        ]
        | few below ↦ inr (Count (kept_count bytes) (kept_last bytes), ((refl, refl, inl below), before))
      ]

  judged_attributes : kept_length bytes +ℤ pos 12 ≡ pos (length bytes) → kept_magic bytes ≡ pos 2 → kept_crc bytes ≡ crc32c_of (drop 21 bytes) → NoneBefore 6 bytes → IsJudged bytes
  judged_attributes len magic crc before =
      elim (cases_eq (codec_of (kept_attributes bytes)) 0) [
        | inr codec ↦ inr (Compressed (codec_of (kept_attributes bytes)), ((refl, codec), before))
        | inl plain ↦
            let plain_before = none_more bytes 6 before (not_compressed bytes plain) in
            elim (cases_eq (bit_and (kept_attributes bytes) (2 ^ 4)) 0) [
              | inr set ↦ inr (Control, (inl set, plain_before))
              | inl four ↦ elim (cases_eq (bit_and (kept_attributes bytes) (2 ^ 5)) 0) [
                | inr set ↦ inr (Control, (inr set, plain_before))
                | inl five ↦ judged_count len magic crc plain (λ set. set four) (λ set. set five) (none_more bytes 7 plain_before (not_control bytes (λ set. set four) (λ set. set five)))
              ]
            ]
      ]

  judged_head : NoneBefore 3 bytes → IsJudged bytes
  judged_head before =
      elim (same_int (kept_length bytes +ℤ pos 12) (pos (length bytes))) [
        | inr differs ↦ inr (Length (kept_length bytes), ((refl, differs), before))
        | inl len ↦
            let len_before = none_more bytes 3 before (not_length bytes len) in
            elim (same_int (kept_magic bytes) (pos 2)) [
              | inr differs ↦ inr (Magic (kept_magic bytes), ((refl, differs), len_before))
              | inl magic ↦
                  let magic_before = none_more bytes 4 len_before (not_magic bytes magic) in
                  elim (cases_eq (kept_crc bytes) (crc32c_of (drop 21 bytes))) [
                    | inr differs ↦ inr (Crc (kept_crc bytes) (crc32c_of (drop 21 bytes)), ((refl, refl, differs), magic_before))
                    | inl crc ↦ judged_attributes len magic crc (none_more bytes 5 magic_before (not_crc bytes crc))
                  ]
            ]
      ]

-- each list of bytes is a batch, or has a first fault
pub batch_or_fault : (bytes : List ℕ) → IsBytes bytes → IsJudged bytes
batch_or_fault bytes fits =
    elim (cases_lt most_bytes (length bytes)) [
      | inl large ↦ inr (TooLarge (length bytes), ((refl, large), none_yet bytes))
      | inr most ↦
          let most_before = none_more bytes 1 (none_yet bytes) (not_large bytes most) in
          elim (cases_lt (length bytes) 61) [
            | inl short ↦ inr (Short, (short, most_before))
            | inr least ↦ judged_head bytes fits least most (none_more bytes 2 most_before (not_short bytes least))
          ]
    ]
