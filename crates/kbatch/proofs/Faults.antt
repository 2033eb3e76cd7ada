-- Bytes are a batch or have one first fault.
use Rattle.std.proofs.Common.{◌≡◌, ℕ, ◌≤◌, ℤ, pos, ◌+ℤ◌, ◌<ℤ◌, ◌↔◌, Result, Ok, Err, List, ◌++◌, length, drop, refl, sym, ap, subst, ◌∙◌, arith, inl, inr}
use Rattle.std.specs.Prelude.{IsErrOf}
use Rattle.std.specs.List.{AllByRecursion}
use Rattle.std.specs.Int.{w16, cast_unsigned, IsBitSet}
use Rattle.std.proofs.lemmas.Bool.{cases_lt}
use Rattle.std.proofs.lemmas.Int.{ints}
use Rattle.kbytes.specs.Octets.{IsBytes}
use Rattle.kbatch.specs.declared.fault.BatchFault.{BatchFault}
use Rattle.kbatch.specs.declared.fault.BatchFault.TheVariants.{TooLarge, Short, Length, Magic, Crc, Compressed, Control, Count, Records, NoMemory}
use Rattle.kbatch.specs.declared.record.Record.{Record}
use Rattle.kbatch.specs.Crc.{crc32c_of}
use Rattle.kbatch.specs.Record.{IsRecord, records_from}
use Rattle.kbatch.specs.Head.{head_bytes}
use Rattle.kbatch.specs.Batch.{IsBatch, most_bytes, codec_of}
use Rattle.kbatch.specs.Kept.{kept_length, kept_magic, kept_crc, kept_attributes, kept_last, kept_count}
use Rattle.kbatch.specs.Fault.{Applies, order, NoneBefore, IsFirstFault}
use Rattle.kbatch.proofs.Places.{length_stands, magic_stands, crc_stands, attributes_stand, last_stands, count_stands, rest_stands, head_of, head_stands, head_fits, attributes_are}
use Rattle.kbatch.proofs.Batches.{batch_len, batch_count}
use Rattle.kbatch.proofs.Records.{stops_once, stops_not}

-- what passes each check is a batch
pub batch_from : (bytes : List ℕ) (n : ℕ) (records : List Record) → IsBytes bytes → 61 ≤ length bytes → length bytes ≤ most_bytes → kept_length bytes +ℤ pos 12 ≡ pos (length bytes) → kept_magic bytes ≡ pos 2 → kept_crc bytes ≡ crc32c_of (drop 21 bytes)
    → codec_of (kept_attributes bytes) ≡ 0 → ¬ IsBitSet (kept_attributes bytes) 4 → ¬ IsBitSet (kept_attributes bytes) 5 → kept_count bytes ≡ pos n → 1 ≤ n → kept_last bytes +ℤ pos 1 ≡ pos n
    → AllByRecursion IsRecord records → length records ≡ n → drop 61 bytes ≡ records_from 0 records → IsBatch bytes records
unfolding head_of kept_length kept_magic kept_crc kept_last kept_count
batch_from bytes n records fits le most len magic crc codec no_transaction no_control count some_record last each number parts =
    let attributes = attributes_are bytes fits in
    record {
      head = head_of bytes;
      in_range = head_fits bytes fits;
      each = each;
      parts = head_stands bytes fits le ∙ ap (λ (xs : List ℕ). head_bytes (head_of bytes) ++ xs) parts;
      most = most;
      batch_length = len;
      magic = magic;
      crc = crc;
      plain = rw attributes codec;
      no_transaction = rw attributes no_transaction;
      no_control = rw attributes no_control;
      count = count ∙ ap pos (sym number);
      some_record = omega (arith, number);
      last = last ∙ sym count;
    }

not_below : (n : ℕ) (z : ℤ) → z ≡ pos n → 1 ≤ n → z <ℤ pos 1 → ⊥
not_below n z is le lt = omega (arith, ints, is, lt)

-- no fault of a batch
pub batch_none : (bytes : List ℕ) (records : List Record) → IsBatch bytes records → (f : BatchFault) → Applies bytes f → ⊥
batch_none bytes records is (TooLarge len) a = omega (arith, a.1, is.most)
batch_none bytes records is Short a = omega (arith, a, batch_len bytes records is)
batch_none bytes records is (Length kept) a =
    let stands : kept_length bytes ≡ is.head.batch_length = ap kept_length is.parts ∙ length_stands is.head (records_from 0 records) is.in_range in
    a.1 (ap (λ (z : ℤ). z +ℤ pos 12) (a.0 ∙ stands) ∙ is.batch_length)
batch_none bytes records is (Magic found) a =
    let stands : kept_magic bytes ≡ is.head.magic = ap kept_magic is.parts ∙ magic_stands is.head (records_from 0 records) is.in_range in
    a.1 (a.0 ∙ stands ∙ is.magic)
batch_none bytes records is (Crc kept found) a =
    let stands : kept_crc bytes ≡ is.head.crc = ap kept_crc is.parts ∙ crc_stands is.head (records_from 0 records) is.in_range in
    a.2 (a.0 ∙ stands ∙ is.crc ∙ sym a.1)
batch_none bytes records is (Compressed codec) a =
    let stands : kept_attributes bytes ≡ cast_unsigned w16 is.head.attributes = ap kept_attributes is.parts ∙ attributes_stand is.head (records_from 0 records) is.in_range in
    a.1 (a.0 ∙ ap codec_of stands ∙ is.plain)
batch_none bytes records is Control a =
    let stands : kept_attributes bytes ≡ cast_unsigned w16 is.head.attributes = ap kept_attributes is.parts ∙ attributes_stand is.head (records_from 0 records) is.in_range in
    elim a [
      | inl set ↦ is.no_transaction (rw stands at set)
      | inr set ↦ is.no_control (rw stands at set)
    ]
batch_none bytes records is (Count count last) a =
    let stands : kept_count bytes ≡ is.head.count = ap kept_count is.parts ∙ count_stands is.head (records_from 0 records) is.in_range in
    let last_is : kept_last bytes ≡ is.head.last_offset_delta = ap kept_last is.parts ∙ last_stands is.head (records_from 0 records) is.in_range in
    elim a.2 [
      | inl below ↦ not_below (length records) count (a.0 ∙ stands ∙ is.count) is.some_record below
      | inr differs ↦ differs (ap (λ (z : ℤ). z +ℤ pos 1) (a.1 ∙ last_is) ∙ is.last ∙ sym (a.0 ∙ stands))
    ]
batch_none bytes records is (Records at) a =
    let parts : drop 61 bytes ≡ records_from 0 records = ap (drop 61) is.parts ∙ rest_stands is.head (records_from 0 records) in
    stops_not bytes at records (omega (arith, batch_len bytes records is)) is.most a is.each (sym (batch_count bytes records is)) parts
batch_none bytes records is NoMemory a = a

-- ---- one fault is the first

same_place : (bytes : List ℕ) (e f : BatchFault) → NoneBefore (order e) bytes → order e ≡ order f → Applies bytes e → Applies bytes f → e ≡ f
same_place bytes (TooLarge m) (TooLarge n) none same a b = ap TooLarge (a.0 ∙ sym b.0)
same_place bytes Short Short none same a b = refl
same_place bytes (Length m) (Length n) none same a b = ap Length (a.0 ∙ sym b.0)
same_place bytes (Magic m) (Magic n) none same a b = ap Magic (a.0 ∙ sym b.0)
same_place bytes (Crc m n) (Crc p q) none same a b = ap (λ (k : ℕ). Crc k n) (a.0 ∙ sym b.0) ∙ ap (Crc p) (a.1 ∙ sym b.1)
same_place bytes (Compressed m) (Compressed n) none same a b = ap Compressed (a.0 ∙ sym b.0)
same_place bytes Control Control none same a b = refl
same_place bytes (Count m n) (Count p q) none same a b = ap (λ (k : ℤ). Count k n) (a.0 ∙ sym b.0) ∙ ap (Count p) (a.1 ∙ sym b.1)
same_place bytes (Records m) (Records n) none same a b =
    elim (cases_lt (length bytes) 61) [
      | inl lt ↦ absurd (none Short (omega arith) lt)
      | inr le ↦
          elim (cases_lt most_bytes (length bytes)) [
            | inl lt ↦ absurd (none (TooLarge (length bytes)) (omega arith) (refl, lt))
            | inr most ↦ ap Records (stops_once bytes m n le most a b)
          ]
    ]
same_place bytes e f none same a b = absurd (omega (arith, same))

pub first_is_one : (bytes : List ℕ) (e f : BatchFault) → IsFirstFault bytes e → IsFirstFault bytes f → e ≡ f
first_is_one bytes e f p q =
    elim (cases_lt (order e) (order f)) [
      | inl lt ↦ absurd (q.1 e lt p.0)
      | inr le ↦
          elim (cases_lt (order f) (order e)) [
            | inl lt ↦ absurd (p.1 f lt q.0)
            | inr ge ↦ same_place bytes e f p.1 (omega (arith, le, ge)) p.0 q.0
          ]
    ]

-- ---- the answers of a reader

abbrev refused : {T : Type 0} → BatchFault → Result T BatchFault
refused e = Err e

same_refused : {T : Type 0} (r : Result T BatchFault) (e f : BatchFault) → r ≡ refused e → r ≡ refused f → e ≡ f
same_refused (Ok x) e f p q = absurd cc
same_refused (Err d) e f p q = cc

-- a reader that answers the first fault
pub refuses : {T : Type 0} (bytes : List ℕ) (r : Result T BatchFault) (e f : BatchFault) → IsFirstFault bytes e → r ≡ Err e → IsErrOf r f ↔ IsFirstFault bytes f
refuses bytes r e f first is =
    (λ p. subst (λ (g : BatchFault). IsFirstFault bytes g) (same_refused r e f is p) first, λ other. is ∙ ap refused (first_is_one bytes e f first other))

-- a reader that takes a batch, or has no memory for it
pub takes : {T : Type 0} (bytes : List ℕ) (records : List Record) (r : Result T BatchFault) (f : BatchFault) → IsBatch bytes records → (IsErrOf r f → ⊥) → IsErrOf r f ↔ IsFirstFault bytes f
takes bytes records r f is other = (λ e. absurd (other e), λ first. absurd (batch_none bytes records is f first.0))

pub none_of_ok : {T : Type 0} (x : T) (r : Result T BatchFault) (f : BatchFault) → r ≡ Ok x → IsErrOf r f → ⊥
none_of_ok x (Ok y) f is e = absurd cc
none_of_ok x (Err d) f is e = absurd cc
