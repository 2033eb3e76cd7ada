-- What a load sends are bytes: fields, digits and the batch of a record.
use Rattle.std.proofs.Common.{rules, ◌≡◌, ℕ, zero, suc, ◌+◌, ◌-◌, ◌*◌, ◌/◌, ◌%◌, ◌^◌, ◌<◌, ◌≤◌, ℤ, pos, negsuc, List, [], ◌∷◌, ◌++◌, length, replicate, Some, None, sym, ap, subst, ◌∙◌, append-nil, arith}
use Rattle.std.specs.List.{AllByRecursion}
use Rattle.std.specs.Int.{Width, w8, w16, w32, w64, byte_len, bytes_high_first, byte_at, cast_unsigned}
use Rattle.std.specs.Fmt.{decimal}
use Rattle.std.proofs.lemmas.Fmt.{IsAscii-decimal, length-decimal-le}
use Rattle.std.proofs.lemmas.List.{length-append, length-replicate}
use Rattle.kbytes.specs.Octets.{IsBytes}
use Rattle.kbytes.specs.Field.{Field, Int8, Int16, Int32, Uint32, Int64, String, NullableString, Records, Array, Varint, Varlong, count_or_null, field, fields, integer, sized, groups}
use Rattle.kbatch.specs.declared.record.Record.{Record}
use Rattle.kbatch.specs.Crc.{crc32c_of}
use Rattle.kbatch.specs.Record.{body_bytes, records_from}
use Rattle.kbatch.specs.Head.{Head, head_bytes}
use Rattle.kbatch.specs.Written.{written, written_with, plain_head, greatest_time}
use Rattle.storm.specs.Requests.{value_of, record_of}
use Rattle.std.specs.Prelude.{drop}

none_are : IsBytes []
none_are i = omega arith

pub one_is : (b : ℕ) (bytes : List ℕ) → b < 256 → IsBytes bytes → IsBytes (b ∷ bytes)
one_is b bytes lt are zero = lt
one_is b bytes lt are (suc i) = are i

pub both_are : (xs ys : List ℕ) → IsBytes xs → IsBytes ys → IsBytes (xs ++ ys)
both_are [] ys one two = two
both_are (x ∷ xs) ys one two = one_is x (xs ++ ys) (one 0) (both_are xs ys (λ i. one (suc i)) two)

pub each_is : (bytes : List ℕ) → AllByRecursion (λ b. b < 256) bytes → IsBytes bytes
each_is [] all = none_are
each_is (b ∷ bytes) all = one_is b bytes all.0 (each_is bytes all.1)

rest_below : (m : ℕ) → m % 256 < 256
rest_below m = omega arith

byte_below : (k n : ℕ) → byte_at k n < 256
byte_below zero n = rest_below n
byte_below (suc k) n = rest_below (n / 256 ^ suc k)

high_first : (k n : ℕ) → IsBytes (bytes_high_first k n)
high_first zero n = none_are
high_first (suc k) n = one_is (byte_at k n) (bytes_high_first k n) (byte_below k n) (high_first k n)

integer_is : (w : Width) (z : ℤ) → IsBytes (integer w z)
integer_is w z = high_first (byte_len w) (cast_unsigned w z)

pub sized_is : (w : Width) (bytes : List ℕ) → IsBytes bytes → IsBytes (sized w (Some bytes))
sized_is w bytes are = both_are (integer w (pos (length bytes))) bytes (integer_is w (pos (length bytes))) are

-- a field that is spelled by bytes: it carries bytes, or is an integer of a width
abbrev pub IsPlain : Field → Type 0
IsPlain (Int8 z) = Unit {0}
IsPlain (Int16 z) = Unit {0}
IsPlain (Int32 z) = Unit {0}
IsPlain (Uint32 n) = Unit {0}
IsPlain (Int64 z) = Unit {0}
IsPlain (String bytes) = IsBytes bytes
IsPlain (NullableString None) = Unit {0}
IsPlain (NullableString (Some bytes)) = IsBytes bytes
IsPlain (Records None) = Unit {0}
IsPlain (Records (Some bytes)) = IsBytes bytes
IsPlain (Array count) = Unit {0}
IsPlain (Varint z) = ⊥
IsPlain (Varlong z) = ⊥

field_is : (f : Field) → IsPlain f → IsBytes (field f)
field_is (Int8 z) plain = integer_is w8 z
field_is (Int16 z) plain = integer_is w16 z
field_is (Int32 z) plain = integer_is w32 z
field_is (Uint32 n) plain = high_first 4 n
field_is (Int64 z) plain = integer_is w64 z
field_is (String bytes) plain = sized_is w16 bytes plain
field_is (NullableString None) plain = integer_is w16 (negsuc 0)
field_is (NullableString (Some bytes)) plain = sized_is w16 bytes plain
field_is (Records None) plain = integer_is w32 (negsuc 0)
field_is (Records (Some bytes)) plain = sized_is w32 bytes plain
field_is (Array count) plain = integer_is w32 (count_or_null count)
field_is (Varint z) plain = absurd plain
field_is (Varlong z) plain = absurd plain

pub fields_are : (fs : List Field) → AllByRecursion IsPlain fs → IsBytes (fields fs)
fields_are [] all = none_are
fields_are (f ∷ fs) all = both_are (field f) (fields fs) (field_is f all.0) (fields_are fs all.1)

-- ---- the value

zeros_are : (k : ℕ) → IsBytes (replicate k 48)
zeros_are zero = none_are
zeros_are (suc k) = one_is 48 (replicate k 48) (omega arith) (zeros_are k)

digits_are : (i : ℕ) → i < 2 ^ 64 → IsBytes (decimal i)
digits_are i few k = let ascii = IsAscii-decimal i few k in omega (arith, ascii)

value_are : (i : ℕ) → i < 200000 → IsBytes (value_of i)
value_are i few = both_are (replicate (16 - length (decimal i)) 48) (decimal i) (zeros_are (16 - length (decimal i))) (digits_are i (omega (arith, few)))

zeros_long : (k : ℕ) → length {A = ℕ} (replicate k 48) ≡ k
zeros_long k = length-replicate {A = ℕ} k 48

pub value_long : (i : ℕ) → i < 200000 → length (value_of i) ≡ 16
value_long i few =
    let short : length (decimal i) ≤ 16 = length-decimal-le 16 i (omega arith) (omega (arith, few)) (omega (arith, few)) in
    omega (arith, short, length-append (replicate (16 - length (decimal i)) 48) (decimal i), zeros_long (16 - length (decimal i)))

-- ---- the record, and the batch

with_value : List ℕ → Record
with_value value = record { attributes = pos 0; time = pos 0; key = None; value = Some value; headers = [] }

abbrev body_with : List ℕ → List ℕ
body_with value = 0 ∷ 0 ∷ 0 ∷ 1 ∷ 32 ∷ (value ++ 0 ∷ [])

body_is : (value : List ℕ) → length value ≡ 16 → body_bytes 0 (with_value value) ≡ body_with value
unfolding with_value body_bytes groups
body_is value long = ap (λ (k : ℕ). 0 ∷ 0 ∷ 0 ∷ 1 ∷ ((groups 4 (2 * k) ++ value) ++ 0 ∷ [])) long

records_are : (value : List ℕ) → length value ≡ 16 → records_from 0 (with_value value ∷ []) ≡ 44 ∷ body_with value
unfolding with_value groups
records_are value long =
    let size : length (body_with value) ≡ 22 = omega (arith, long, length-append value (0 ∷ [])) in
    ap (λ (xs : List ℕ). (groups 4 (2 * length xs) ++ xs) ++ []) (body_is value long)
    ∙ ap (λ (k : ℕ). (groups 4 (2 * k) ++ body_with value) ++ []) size ∙ append-nil (44 ∷ body_with value)

head_long : (h : Head) (rest : List ℕ) → length (head_bytes h ++ rest) ≡ 61 + length rest
unfolding head_bytes
head_long h rest = omega arith

head_are : (h : Head) → IsBytes (head_bytes h)
unfolding head_bytes
head_are h =
    let all : List Field = Int64 h.base_offset ∷ Int32 h.batch_length ∷ Int32 h.leader_epoch ∷ Int8 h.magic ∷ Uint32 h.crc ∷ Int16 h.attributes ∷ Int32 h.last_offset_delta
    ∷ Int64 h.base_timestamp ∷ Int64 h.max_timestamp ∷ Int64 h.producer_id ∷ Int16 h.producer_epoch ∷ Int32 h.base_sequence ∷ Int32 h.count ∷ [] in
    fields_are all (search rules)

abbrev own_head : List Record → Head
own_head records = plain_head (crc32c_of (drop 21 (written_with 0 records))) (length (records_from 0 records)) (length records) (greatest_time records)

written_long : (value : List ℕ) → length value ≡ 16 → length (written (with_value value ∷ [])) ≡ 84
written_long value long =
    let rows = records_from 0 (with_value value ∷ []) in
    let size : length rows ≡ 23 = ap length (records_are value long) ∙ omega (arith, long, length-append value (0 ∷ [])) in
    head_long (own_head (with_value value ∷ [])) rows ∙ ap (λ (k : ℕ). 61 + k) size

written_are : (value : List ℕ) → length value ≡ 16 → IsBytes value → IsBytes (written (with_value value ∷ []))
written_are value long are =
    let rows = records_from 0 (with_value value ∷ []) in
    let body : IsBytes (value ++ 0 ∷ []) = both_are value (0 ∷ []) are (each_is (0 ∷ []) (omega arith, tt)) in
    let all : IsBytes (44 ∷ body_with value) = both_are (44 ∷ 0 ∷ 0 ∷ 0 ∷ 1 ∷ 32 ∷ []) (value ++ 0 ∷ [])
    (each_is (44 ∷ 0 ∷ 0 ∷ 0 ∷ 1 ∷ 32 ∷ []) (omega arith, (omega arith, (omega arith, (omega arith, (omega arith, (omega arith, tt))))))) body in
    both_are (head_bytes (own_head (with_value value ∷ []))) rows (head_are (own_head (with_value value ∷ []))) (subst IsBytes (sym (records_are value long)) all)

pub batch_long : (i : ℕ) → i < 200000 → length (written (record_of i ∷ [])) ≡ 84
unfolding with_value
batch_long i few = written_long (value_of i) (value_long i few)

pub batch_are : (i : ℕ) → i < 200000 → IsBytes (written (record_of i ∷ []))
unfolding with_value
batch_are i few = written_are (value_of i) (value_long i few) (value_are i few)
