-- The parts of a record: what is read is spelled so, and what is spelled so is read.
use Rattle.std.proofs.Common.{◌≡◌, ℕ, zero, suc, ◌+◌, ◌^◌, ◌<◌, ◌≤◌, ℤ, pos, negsuc, Bool, true, false, cond, ltb, eqb, List, [], ◌∷◌, ◌++◌, length, take, drop, Option, Some, None, Result, Ok, Err, refl, sym, ap, subst, ◌∙◌, append_assoc, arith}
use Rattle.std.specs.Prelude.{FitsSigned}
use Rattle.std.specs.List.{flat_map}
use Rattle.std.specs.Int.{w8, w32, w64}
use Rattle.std.proofs.lemmas.Bool.{ltb-false, le-ltb, eqb-true, eq-eqb}
use Rattle.std.proofs.lemmas.List.{append-nil, take-append-drop, take_at, drop_at, length-append, length-take}
use Rattle.kbytes.specs.declared.fault.ByteFault.{ByteFault}
use Rattle.kbytes.specs.Octets.{IsBytes}
use Rattle.kbytes.specs.declared.fault.ByteFault.TheVariants.{Short}
use Rattle.kbytes.specs.Cursor.{Cursor, moved, rest_of}
use Rattle.kbytes.specs.Field.{field, Int8, Varint, Varlong}
use Rattle.kbytes.specs.Reading.{integer_at, varint_at, varlong_at}
use Rattle.kbytes.proofs.Laws.{IsBytes-drop, IsBytes-take, wide_8, integer_reads, grouped_again, grouped_read, varint_kind, varlong_kind}
use Rattle.kbatch.specs.declared.record.Record.{Record}
use Rattle.kbatch.specs.declared.record.Header.{Header}
use Rattle.kbatch.specs.Kept.{kept_integer}
use Rattle.kbatch.specs.Record.{sized, header_bytes, body_bytes, record_bytes, IsRecord}
use Rattle.kbatch.specs.Walk.{◌>>=◌, front, behind, after_varint, after_varlong, after_int8, part_at, part_after, part_or_null_after, key_at, value_at, header_at, RecordParts, headers_after, parts_at, after_header, after_headers, for_delta, after_body, whole, after_record}
use Rattle.kbatch.proofs.Places.{signed_piece, fits_at}
use Rattle.kbatch.proofs.Lengths.{sized_len}

-- ---- tools

bind_some : {A B : Type 0} (o : Option A) (f : A → Option B) (y : B) → (o >>= f) ≡ Some y → (x : A) × (o ≡ Some x) × (f x ≡ Some y)
bind_some None f y e = absurd cc
bind_some (Some x) f y e = (x, refl, e)

guard_some : {A : Type 0} (b : Bool) (x y : A) → cond b None (Some x) ≡ Some y → (b ≡ false) × (x ≡ y)
guard_some true x y e = absurd cc
guard_some false x y e = (refl, cc)

guard_that : {A : Type 0} (b : Bool) (x y : A) → cond b (Some x) None ≡ Some y → (b ≡ true) × (x ≡ y)
guard_that true x y e = (refl, cc)
guard_that false x y e = absurd cc

abbrev pub some : {A : Type 0} → A → Option A
some x = Some x

pub same_some : {A : Type 0} (x y : A) → some x ≡ some y → x ≡ y
same_some x y e = cc

behind_some : (r : Result (ℤ × Cursor) ByteFault) (z : ℤ) (rest : List ℕ) → behind r ≡ Some (z, rest) → (d : Cursor) × (r ≡ Ok (z, d)) × (rest_of d ≡ rest)
behind_some (Err f) z rest e = absurd cc
behind_some (Ok x) z rest e =
    let same = same_some (x.0, rest_of x.1) (z, rest) e in
    let first : x.0 ≡ z = ap (λ (p : ℤ × List ℕ). p.0) same in
    (x.1, ap (λ (y : ℤ). Ok (y, x.1)) first, ap (λ (p : ℤ × List ℕ). p.1) same)

pub tail_fits : (bytes text rest : List ℕ) → bytes ≡ text ++ rest → IsBytes bytes → IsBytes rest
tail_fits bytes text rest e fits = subst IsBytes (ap (drop (length text)) e ∙ drop_at text rest (length text) refl) (IsBytes-drop (length text) bytes fits)

-- one part after another
pub then : (bytes a b c d : List ℕ) → bytes ≡ a ++ b → b ≡ c ++ d → bytes ≡ (a ++ c) ++ d
then bytes a b c d p q = p ∙ ap (λ (xs : List ℕ). a ++ xs) q ∙ sym (append_assoc a c d)

pub tail_below : (n : ℕ) (a b : List ℕ) → length (a ++ b) < n → length b < n
tail_below n a b lt = omega (arith, length-append a b)

-- ---- varints

pub varint_takes : (bytes : List ℕ) (z : ℤ) (rest : List ℕ) → IsBytes bytes → after_varint bytes ≡ Some (z, rest) → FitsSigned w32 z × (bytes ≡ field (Varint z) ++ rest)
unfolding after_varint varint_at
varint_takes bytes z rest fits e =
    let b = behind_some (varint_at (front bytes)) z rest e in
    let s = grouped_read w32 Varint 4 (2 ^ 32) varint_kind (front bytes) b.0 z fits b.1 in
    (varint_kind.fits z s.1, s.0.parts ∙ ap (λ (r : List ℕ). field (Varint z) ++ r) b.2)

pub varint_again : (z : ℤ) (rest : List ℕ) → FitsSigned w32 z → after_varint (field (Varint z) ++ rest) ≡ Some (z, rest)
unfolding after_varint varint_at
varint_again z rest is =
    let text = field (Varint z) in
    let read = grouped_again 4 (2 ^ 32) z (front (text ++ rest)) rest varint_kind.room (varint_kind.below z is) refl in
    ap behind read ∙ ap (λ (r : List ℕ). Some (z, r)) (drop_at text rest (0 + length text) (omega arith))

pub varlong_takes : (bytes : List ℕ) (z : ℤ) (rest : List ℕ) → IsBytes bytes → after_varlong bytes ≡ Some (z, rest) → FitsSigned w64 z × (bytes ≡ field (Varlong z) ++ rest)
unfolding after_varlong varlong_at
varlong_takes bytes z rest fits e =
    let b = behind_some (varlong_at (front bytes)) z rest e in
    let s = grouped_read w64 Varlong 9 (2 ^ 64) varlong_kind (front bytes) b.0 z fits b.1 in
    (varlong_kind.fits z s.1, s.0.parts ∙ ap (λ (r : List ℕ). field (Varlong z) ++ r) b.2)

pub varlong_again : (z : ℤ) (rest : List ℕ) → FitsSigned w64 z → after_varlong (field (Varlong z) ++ rest) ≡ Some (z, rest)
unfolding after_varlong varlong_at
varlong_again z rest is =
    let text = field (Varlong z) in
    let read = grouped_again 9 (2 ^ 64) z (front (text ++ rest)) rest varlong_kind.room (varlong_kind.below z is) refl in
    ap behind read ∙ ap (λ (r : List ℕ). Some (z, r)) (drop_at text rest (0 + length text) (omega arith))

-- ---- so many bytes

part_takes : (n : ℕ) (bytes part rest : List ℕ) → part_at n bytes ≡ Some (part, rest) → (length part ≡ n) × (bytes ≡ part ++ rest)
unfolding part_at
part_takes n bytes part rest e =
    let g = guard_some (ltb (length bytes) n) (take n bytes, drop n bytes) (part, rest) e in
    let long : n ≤ length bytes = ltb-false _ _ g.0 in
    let front : take n bytes ≡ part = ap (λ (p : List ℕ × List ℕ). p.0) g.1 in
    let back : drop n bytes ≡ rest = ap (λ (p : List ℕ × List ℕ). p.1) g.1 in
    let size = ap length front in
    (omega (arith, length-take n bytes), sym (take-append-drop n bytes) ∙ ap (λ (xs : List ℕ). xs ++ drop n bytes) front ∙ ap (λ (xs : List ℕ). part ++ xs) back)

pub part_reads : (part rest : List ℕ) → part_at (length part) (part ++ rest) ≡ Some (part, rest)
unfolding part_at
part_reads part rest =
    let long : ltb (length (part ++ rest)) (length part) ≡ false = le-ltb _ _ (omega (arith, length-append part rest)) in
    rw (long, take_at part rest (length part) refl, drop_at part rest (length part) refl) refl

-- ---- keys and values

-- a length that has a varint
pub small : (n : ℕ) → n < 2 ^ 31 → FitsSigned w32 (pos n)
small n lt = record { sfits = omega arith }

sized_with : (bytes part rest : List ℕ) (n : ℕ) → length part ≡ n → bytes ≡ field (Varint (pos n)) ++ (part ++ rest) → bytes ≡ sized (Some part) ++ rest
sized_with bytes part rest n len e =
    let text = field (Varint (pos (length part))) in
    subst (λ (m : ℕ). bytes ≡ field (Varint (pos m)) ++ (part ++ rest)) (sym len) e ∙ sym (append_assoc text part rest)

key_from : (bytes : List ℕ) (x : ℤ × List ℕ) (key rest : List ℕ) → bytes ≡ field (Varint x.0) ++ x.1 → part_after x ≡ Some (key, rest) → bytes ≡ sized (Some key) ++ rest
key_from bytes (pos n, behind_length) key rest parts e =
    let b = part_takes n behind_length key rest e in
    sized_with bytes key rest n b.0 (parts ∙ ap (λ (xs : List ℕ). field (Varint (pos n)) ++ xs) b.1)
key_from bytes (negsuc n, behind_length) key rest parts e = absurd cc

value_from : (bytes : List ℕ) (x : ℤ × List ℕ) (value : Option (List ℕ)) (rest : List ℕ) → bytes ≡ field (Varint x.0) ++ x.1 → part_or_null_after x ≡ Some (value, rest) → bytes ≡ sized value ++ rest
value_from bytes (pos n, behind_length) value rest parts e =
    let f : List ℕ × List ℕ → Option (Option (List ℕ) × List ℕ) = λ part. Some (Some part.0, part.1) in
    let g = bind_some (part_at n behind_length) f (value, rest) e in
    let same = same_some (Some g.0.0, g.0.1) (value, rest) g.2 in
    let b = part_takes n behind_length g.0.0 g.0.1 g.1 in
    let spelled : bytes ≡ sized (Some g.0.0) ++ g.0.1 = sized_with bytes g.0.0 g.0.1 n b.0 (parts ∙ ap (λ (xs : List ℕ). field (Varint (pos n)) ++ xs) b.1) in
    spelled ∙ ap (λ (p : Option (List ℕ) × List ℕ). sized p.0 ++ p.1) same
value_from bytes (negsuc zero, behind_length) value rest parts e =
    let none : Option (List ℕ) = None in
    parts ∙ ap (λ (p : Option (List ℕ) × List ℕ). sized p.0 ++ p.1) (same_some (none, behind_length) (value, rest) e)
value_from bytes (negsuc (suc n), behind_length) value rest parts e = absurd cc

key_takes : (bytes key rest : List ℕ) → IsBytes bytes → key_at bytes ≡ Some (key, rest) → bytes ≡ sized (Some key) ++ rest
unfolding key_at
key_takes bytes key rest fits e =
    let b = bind_some (after_varint bytes) part_after (key, rest) e in
    key_from bytes b.0 key rest (varint_takes bytes b.0.0 b.0.1 fits b.1).1 b.2

value_takes : (bytes : List ℕ) (value : Option (List ℕ)) (rest : List ℕ) → IsBytes bytes → value_at bytes ≡ Some (value, rest) → bytes ≡ sized value ++ rest
unfolding value_at
value_takes bytes value rest fits e =
    let b = bind_some (after_varint bytes) part_or_null_after (value, rest) e in
    value_from bytes b.0 value rest (varint_takes bytes b.0.0 b.0.1 fits b.1).1 b.2

-- the length of what stands first
pub sized_small : (part rest : List ℕ) → length (sized (Some part) ++ rest) < 2 ^ 31 → FitsSigned w32 (pos (length part))
sized_small part rest lt = small (length part) (omega (arith, length-append (sized (Some part)) rest, sized_len part))

pub sized_varint : (part rest : List ℕ) → length (sized (Some part) ++ rest) < 2 ^ 31 → after_varint (sized (Some part) ++ rest) ≡ Some (pos (length part), part ++ rest)
sized_varint part rest lt =
    ap after_varint (append_assoc (field (Varint (pos (length part)))) part rest) ∙ varint_again (pos (length part)) (part ++ rest) (sized_small part rest lt)

pub key_reads : (key rest : List ℕ) → length (sized (Some key) ++ rest) < 2 ^ 31 → key_at (sized (Some key) ++ rest) ≡ Some (key, rest)
unfolding key_at
key_reads key rest lt = rw (sized_varint key rest lt) (part_reads key rest)

pub value_reads : (value : Option (List ℕ)) (rest : List ℕ) → length (sized value ++ rest) < 2 ^ 31 → value_at (sized value ++ rest) ≡ Some (value, rest)
unfolding value_at
value_reads None rest lt = rw (varint_again (negsuc 0) rest (record { sfits = omega arith })) refl
value_reads (Some value) rest lt = rw (sized_varint value rest lt, part_reads value rest) refl

-- ---- headers

header_takes : (bytes : List ℕ) (h : Header) (rest : List ℕ) → IsBytes bytes → header_at bytes ≡ Some (h, rest) → bytes ≡ header_bytes h ++ rest
unfolding header_at header_bytes
header_takes bytes h rest fits e =
    let f : List ℕ × List ℕ → Option (Header × List ℕ) = λ key. value_at key.1 >>= λ value. Some (record { key = key.0; value = value.0 }, value.1) in
    let b = bind_some (key_at bytes) f (h, rest) e in
    let g : Option (List ℕ) × List ℕ → Option (Header × List ℕ) = λ value. Some (record { key = b.0.0; value = value.0 }, value.1) in
    let v = bind_some (value_at b.0.1) g (h, rest) b.2 in
    let found : Header = record { key = b.0.0; value = v.0.0 } in
    let same = same_some (found, v.0.1) (h, rest) v.2 in
    let key = key_takes bytes b.0.0 b.0.1 fits b.1 in
    let value = value_takes b.0.1 v.0.0 v.0.1 (tail_fits bytes (sized (Some b.0.0)) b.0.1 key fits) v.1 in
    then bytes (sized (Some b.0.0)) b.0.1 (sized v.0.0) v.0.1 key value ∙ ap (λ (p : Header × List ℕ). header_bytes p.0 ++ p.1) same

pub header_reads : (h : Header) (rest : List ℕ) → length (header_bytes h ++ rest) < 2 ^ 31 → header_at (header_bytes h ++ rest) ≡ Some (h, rest)
unfolding header_at header_bytes
header_reads h rest lt =
    let regrouped = append_assoc (sized (Some h.key)) (sized h.value) rest in
    let lt2 : length (sized (Some h.key) ++ (sized h.value ++ rest)) < 2 ^ 31 = subst (λ (xs : List ℕ). length xs < 2 ^ 31) regrouped lt in
    ap header_at regrouped
    ∙ rw (key_reads h.key (sized h.value ++ rest) lt2, value_reads h.value rest (tail_below (2 ^ 31) (sized (Some h.key)) (sized h.value ++ rest) lt2)) refl

header_behind : (bytes rest : List ℕ) → after_header bytes ≡ Some rest → (h : Header) × (header_at bytes ≡ Some (h, rest))
unfolding after_header
header_behind bytes rest e =
    let f : Header × List ℕ → Option (List ℕ) = λ read. Some read.1 in
    let b = bind_some (header_at bytes) f rest e in
    let same = same_some b.0.1 rest b.2 in
    (b.0.0, b.1 ∙ ap (λ (r : List ℕ). Some (b.0.0, r)) same)

header_again : (h : Header) (rest : List ℕ) → length (header_bytes h ++ rest) < 2 ^ 31 → after_header (header_bytes h ++ rest) ≡ Some rest
unfolding after_header
header_again h rest lt = rw (header_reads h rest lt) refl

headers_take : (n : ℕ) (bytes rest : List ℕ) → IsBytes bytes → after_headers n bytes ≡ Some rest → (hs : List Header) × (length hs ≡ n) × (bytes ≡ flat_map header_bytes hs ++ rest)
unfolding after_headers
headers_take zero bytes rest fits e = ([], refl, same_some bytes rest e)
headers_take (suc n) bytes rest fits e =
    let b = bind_some (after_header bytes) (after_headers n) rest e in
    let h = header_behind bytes b.0 b.1 in
    let first = header_takes bytes h.0 b.0 fits h.1 in
    let others = headers_take n b.0 rest (tail_fits bytes (header_bytes h.0) b.0 first fits) b.2 in
    (h.0 ∷ others.0, ap suc others.1, then bytes (header_bytes h.0) b.0 (flat_map header_bytes others.0) rest first others.2)

headers_again : (hs : List Header) (rest : List ℕ) → length (flat_map header_bytes hs ++ rest) < 2 ^ 31 → after_headers (length hs) (flat_map header_bytes hs ++ rest) ≡ Some rest
unfolding after_headers
headers_again [] rest lt = refl
headers_again (h ∷ hs) rest lt =
    let regrouped : flat_map header_bytes (h ∷ hs) ++ rest ≡ header_bytes h ++ (flat_map header_bytes hs ++ rest) = append_assoc (header_bytes h) (flat_map header_bytes hs) rest in
    let lt2 : length (header_bytes h ++ (flat_map header_bytes hs ++ rest)) < 2 ^ 31 = subst (λ (xs : List ℕ). length xs < 2 ^ 31) regrouped lt in
    ap (after_headers (suc (length hs))) regrouped
    ∙ rw (header_again h (flat_map header_bytes hs ++ rest) lt2) (headers_again hs rest (tail_below (2 ^ 31) (header_bytes h) (flat_map header_bytes hs ++ rest) lt2))

-- as many bytes as headers, at the least
pub headers_len : (hs : List Header) → length hs ≤ length (flat_map header_bytes hs)
unfolding header_bytes
headers_len [] = omega arith
headers_len (h ∷ hs) =
    omega (arith, length-append (header_bytes h) (flat_map header_bytes hs), length-append (sized (Some h.key)) (sized h.value), sized_len h.key, headers_len hs)

-- ---- what stands after a record's length

abbrev failed : {A E : Type 0} → E → Result A E
failed err = Err err

guard_ok : {A E : Type 0} (b : Bool) (err : E) (x y : A) → cond b (failed {A = A} err) (Ok x) ≡ Ok y → (b ≡ false) × (x ≡ y)
guard_ok true err x y e = absurd cc
guard_ok false err x y e = (refl, cc)

int8_takes : (bytes : List ℕ) (z : ℤ) (rest : List ℕ) → IsBytes bytes → after_int8 bytes ≡ Some (z, rest) → FitsSigned w8 z × (bytes ≡ field (Int8 z) ++ rest)
unfolding after_int8
int8_takes bytes z rest fits e =
    let b = behind_some (integer_at w8 (front bytes)) z rest e in
    let g = guard_ok (ltb (length bytes) 1) (Short 0) (kept_integer w8 0 bytes, moved (front bytes) 1) (z, b.0) b.1 in
    let value : kept_integer w8 0 bytes ≡ z = ap (λ (p : ℤ × Cursor). p.0) g.1 in
    let back : drop 1 bytes ≡ rest = ap (λ (p : ℤ × Cursor). rest_of p.1) g.1 ∙ b.2 in
    (subst (λ (y : ℤ). FitsSigned w8 y) value (fits_at w8 wide_8 bytes 0 fits), signed_piece w8 wide_8 bytes 0 rest fits (ltb-false _ _ g.0) back ∙ ap (λ (y : ℤ). field (Int8 y) ++ rest) value)

pub int8_reads : (z : ℤ) (rest : List ℕ) → FitsSigned w8 z → after_int8 (field (Int8 z) ++ rest) ≡ Some (z, rest)
unfolding after_int8
int8_reads z rest is =
    let text = field (Int8 z) in
    ap behind (integer_reads w8 wide_8 z (front (text ++ rest)) rest is refl)

abbrev pub parts_bytes : RecordParts → List ℕ
parts_bytes p = field (Int8 p.attributes) ++ (field (Varlong p.time) ++ (field (Varint p.delta) ++ (sized p.key ++ (sized p.value ++ (field (Varint (pos p.count)) ++ p.headers)))))

counted_from : (x : ℤ × List ℕ) (n : ℕ) (rest : List ℕ) → headers_after x ≡ Some (n, rest) → x ≡ (pos n, rest)
counted_from (pos m, behind_count) n rest e = ap (λ (p : ℕ × List ℕ). (pos p.0, p.1)) (same_some (m, behind_count) (n, rest) e)
counted_from (negsuc m, behind_count) n rest e = absurd cc

-- what is read after each part
abbrev read6 : ℤ → ℤ → ℤ → Option (List ℕ) → Option (List ℕ) → ℕ × List ℕ → Option RecordParts
read6 a t d k v headers = Some (record { attributes = a; time = t; delta = d; key = k; value = v; count = headers.0; headers = headers.1 })

abbrev read5 : ℤ → ℤ → ℤ → Option (List ℕ) → Option (List ℕ) → ℤ × List ℕ → Option RecordParts
read5 a t d k v counted = headers_after counted >>= read6 a t d k v

abbrev read4 : ℤ → ℤ → ℤ → Option (List ℕ) → Option (List ℕ) × List ℕ → Option RecordParts
read4 a t d k value = after_varint value.1 >>= read5 a t d k value.0

abbrev read3 : ℤ → ℤ → ℤ → Option (List ℕ) × List ℕ → Option RecordParts
read3 a t d key = value_at key.1 >>= read4 a t d key.0

abbrev read2 : ℤ → ℤ → ℤ × List ℕ → Option RecordParts
read2 a t delta = value_at delta.1 >>= read3 a t delta.0

abbrev read1 : ℤ → ℤ × List ℕ → Option RecordParts
read1 a time = after_varint time.1 >>= read2 a time.0

abbrev read0 : ℤ × List ℕ → Option RecordParts
read0 attributes = after_varlong attributes.1 >>= read1 attributes.0

parts_take : (bytes : List ℕ) (p : RecordParts) → IsBytes bytes → parts_at bytes ≡ Some p → FitsSigned w8 p.attributes × FitsSigned w64 p.time × (bytes ≡ parts_bytes p)
unfolding parts_at
parts_take bytes p fits e =
    let b0 = bind_some (after_int8 bytes) read0 p e in
    let b1 = bind_some (after_varlong b0.0.1) (read1 b0.0.0) p b0.2 in
    let b2 = bind_some (after_varint b1.0.1) (read2 b0.0.0 b1.0.0) p b1.2 in
    let b3 = bind_some (value_at b2.0.1) (read3 b0.0.0 b1.0.0 b2.0.0) p b2.2 in
    let b4 = bind_some (value_at b3.0.1) (read4 b0.0.0 b1.0.0 b2.0.0 b3.0.0) p b3.2 in
    let b5 = bind_some (after_varint b4.0.1) (read5 b0.0.0 b1.0.0 b2.0.0 b3.0.0 b4.0.0) p b4.2 in
    let b6 = bind_some (headers_after b5.0) (read6 b0.0.0 b1.0.0 b2.0.0 b3.0.0 b4.0.0) p b5.2 in
    let found : RecordParts = record { attributes = b0.0.0; time = b1.0.0; delta = b2.0.0; key = b3.0.0; value = b4.0.0; count = b6.0.0; headers = b6.0.1 } in
    let attributes = int8_takes bytes b0.0.0 b0.0.1 fits b0.1 in
    let fits0 = tail_fits bytes (field (Int8 b0.0.0)) b0.0.1 attributes.1 fits in
    let time = varlong_takes b0.0.1 b1.0.0 b1.0.1 fits0 b1.1 in
    let fits1 = tail_fits b0.0.1 (field (Varlong b1.0.0)) b1.0.1 time.1 fits0 in
    let number = (varint_takes b1.0.1 b2.0.0 b2.0.1 fits1 b2.1).1 in
    let fits2 = tail_fits b1.0.1 (field (Varint b2.0.0)) b2.0.1 number fits1 in
    let key = value_takes b2.0.1 b3.0.0 b3.0.1 fits2 b3.1 in
    let fits3 = tail_fits b2.0.1 (sized b3.0.0) b3.0.1 key fits2 in
    let value = value_takes b3.0.1 b4.0.0 b4.0.1 fits3 b4.1 in
    let fits4 = tail_fits b3.0.1 (sized b4.0.0) b4.0.1 value fits3 in
    let count = (varint_takes b4.0.1 b5.0.0 b5.0.1 fits4 b5.1).1 ∙ ap (λ (x : ℤ × List ℕ). field (Varint x.0) ++ x.1) (counted_from b5.0 b6.0.0 b6.0.1 b6.1) in
    let from_value = value ∙ ap (λ (xs : List ℕ). sized b4.0.0 ++ xs) count in
    let from_key = key ∙ ap (λ (xs : List ℕ). sized b3.0.0 ++ xs) from_value in
    let from_delta = number ∙ ap (λ (xs : List ℕ). field (Varint b2.0.0) ++ xs) from_key in
    let from_time = time.1 ∙ ap (λ (xs : List ℕ). field (Varlong b1.0.0) ++ xs) from_delta in
    let spelled : bytes ≡ parts_bytes found = attributes.1 ∙ ap (λ (xs : List ℕ). field (Int8 b0.0.0) ++ xs) from_time in
    let Spelled : RecordParts → Type 0 = λ q. FitsSigned w8 q.attributes × FitsSigned w64 q.time × (bytes ≡ parts_bytes q) in
    subst Spelled (same_some found p b6.2) (attributes.0, time.0, spelled)

guard_follow : {A : Type 0} (b : Bool) (y : Option A) (z : A) → cond b y None ≡ Some z → (b ≡ true) × (y ≡ Some z)
guard_follow true y z e = (refl, e)
guard_follow false y z e = absurd cc

delta_from : (delta : ℕ) (z : ℤ) (follows : Option (List ℕ)) (rest : List ℕ) → for_delta delta z follows ≡ Some rest → (z ≡ pos delta) × (follows ≡ Some rest)
delta_from delta (pos n) follows rest e =
    let g = guard_follow (eqb n delta) follows rest e in
    (ap (λ (m : ℕ). pos m) (eqb-true _ _ g.0), g.1)
delta_from delta (negsuc n) follows rest e = absurd cc

regroup : (a t d k v c hs rest : List ℕ) → (a ++ (t ++ (d ++ (k ++ (v ++ (c ++ hs)))))) ++ rest ≡ a ++ (t ++ (d ++ (k ++ (v ++ (c ++ (hs ++ rest))))))
regroup a t d k v c hs rest = simp append_assoc

headers_last : (a t d k v c hs : List ℕ) → (a ++ (t ++ (d ++ (k ++ (v ++ c))))) ++ hs ≡ a ++ (t ++ (d ++ (k ++ (v ++ (c ++ hs)))))
headers_last a t d k v c hs = simp append_assoc

abbrev spread : ℕ → Record → List ℕ → List ℕ
spread delta r rest = field (Int8 r.attributes) ++ (field (Varlong r.time) ++ (field (Varint (pos delta)) ++ (sized r.key ++ (sized r.value ++ (field (Varint (pos (length r.headers))) ++ (flat_map header_bytes r.headers ++ rest))))))

body_spread : (delta : ℕ) (r : Record) (rest : List ℕ) → body_bytes delta r ++ rest ≡ spread delta r rest
unfolding body_bytes
body_spread delta r rest = regroup (field (Int8 r.attributes)) (field (Varlong r.time)) (field (Varint (pos delta))) (sized r.key) (sized r.value) (field (Varint (pos (length r.headers)))) (flat_map header_bytes r.headers) rest

body_takes : (delta : ℕ) (bytes rest : List ℕ) → IsBytes bytes → after_body delta bytes ≡ Some rest → (r : Record) × IsRecord r × (bytes ≡ body_bytes delta r ++ rest)
unfolding after_body body_bytes
body_takes delta bytes rest fits e =
    let f : RecordParts → Option (List ℕ) = λ parts. for_delta delta parts.delta (after_headers parts.count parts.headers) in
    let b = bind_some (parts_at bytes) f rest e in
    let p = b.0 in
    let t = parts_take bytes p fits b.1 in
    let g = delta_from delta p.delta (after_headers p.count p.headers) rest b.2 in
    let text = field (Int8 p.attributes) ++ (field (Varlong p.time) ++ (field (Varint p.delta) ++ (sized p.key ++ (sized p.value ++ field (Varint (pos p.count)))))) in
    let regrouped : text ++ p.headers ≡ parts_bytes p = headers_last (field (Int8 p.attributes)) (field (Varlong p.time)) (field (Varint p.delta)) (sized p.key) (sized p.value) (field (Varint (pos p.count))) p.headers in
    let hs = headers_take p.count p.headers rest (tail_fits bytes text p.headers (t.2 ∙ sym regrouped) fits) g.1 in
    let form : ℤ → ℕ → List ℕ → List ℕ = λ d n xs. field (Int8 p.attributes) ++ (field (Varlong p.time) ++ (field (Varint d) ++ (sized p.key ++ (sized p.value ++ (field (Varint (pos n)) ++ xs))))) in
    let found : Record = record { attributes = p.attributes; time = p.time; key = p.key; value = p.value; headers = hs.0 } in
    let spelled = t.2 ∙ ap (λ (d : ℤ). form d p.count p.headers) g.0 ∙ ap (λ (n : ℕ). form (pos delta) n p.headers) (sym hs.1) ∙ ap (form (pos delta) (length hs.0)) hs.2 in
    (found, record { attributes = t.0; time = t.1 }, spelled ∙ sym (body_spread delta found rest))

abbrev pub parts_of : ℕ → Record → List ℕ → RecordParts
parts_of delta r rest = record { attributes = r.attributes; time = r.time; delta = pos delta; key = r.key; value = r.value; count = length r.headers; headers = flat_map header_bytes r.headers ++ rest }

-- each part has the bytes that it needs
pub record AreShort (delta : ℕ) (r : Record) (rest : List ℕ) : Type 0 where
  pub key : length (sized r.key ++ (sized r.value ++ (field (Varint (pos (length r.headers))) ++ (flat_map header_bytes r.headers ++ rest)))) < 2 ^ 31
  pub value : length (sized r.value ++ (field (Varint (pos (length r.headers))) ++ (flat_map header_bytes r.headers ++ rest))) < 2 ^ 31
  pub headers : length (flat_map header_bytes r.headers ++ rest) < 2 ^ 31

pub are_short : (delta : ℕ) (r : Record) (rest : List ℕ) → length (body_bytes delta r ++ rest) < 2 ^ 31 → AreShort delta r rest
are_short delta r rest lt =
    let hs = flat_map header_bytes r.headers ++ rest in
    let count = field (Varint (pos (length r.headers))) in
    let lt0 : length (spread delta r rest) < 2 ^ 31 = subst (λ (xs : List ℕ). length xs < 2 ^ 31) (body_spread delta r rest) lt in
    let lt1 = tail_below (2 ^ 31) (field (Int8 r.attributes)) (field (Varlong r.time) ++ (field (Varint (pos delta)) ++ (sized r.key ++ (sized r.value ++ (count ++ hs))))) lt0 in
    let lt2 = tail_below (2 ^ 31) (field (Varlong r.time)) (field (Varint (pos delta)) ++ (sized r.key ++ (sized r.value ++ (count ++ hs)))) lt1 in
    let lt3 = tail_below (2 ^ 31) (field (Varint (pos delta))) (sized r.key ++ (sized r.value ++ (count ++ hs))) lt2 in
    let lt4 = tail_below (2 ^ 31) (sized r.key) (sized r.value ++ (count ++ hs)) lt3 in
    let lt5 = tail_below (2 ^ 31) (sized r.value) (count ++ hs) lt4 in
    record { key = lt3; value = lt4; headers = tail_below (2 ^ 31) count hs lt5 }

pub parts_read : (delta : ℕ) (r : Record) (rest : List ℕ) → delta < 2 ^ 31 → IsRecord r → length (body_bytes delta r ++ rest) < 2 ^ 31 → parts_at (body_bytes delta r ++ rest) ≡ Some (parts_of delta r rest)
unfolding parts_at
parts_read delta r rest delta_lt is lt =
    let hs = flat_map header_bytes r.headers ++ rest in
    let count = field (Varint (pos (length r.headers))) in
    let short = are_short delta r rest lt in
    let few = small (length r.headers) (omega (arith, headers_len r.headers, length-append (flat_map header_bytes r.headers) rest, short.headers)) in
    ap parts_at (body_spread delta r rest)
    ∙ rw (int8_reads r.attributes (field (Varlong r.time) ++ (field (Varint (pos delta)) ++ (sized r.key ++ (sized r.value ++ (count ++ hs))))) is.attributes, varlong_again r.time (field (Varint (pos delta)) ++ (sized r.key ++ (sized r.value ++ (count ++ hs)))) is.time, varint_again (pos delta) (sized r.key ++ (sized r.value ++ (count ++ hs))) (small delta delta_lt), value_reads r.key (sized r.value ++ (count ++ hs)) short.key, value_reads r.value (count ++ hs) short.value, varint_again (pos (length r.headers)) hs few) refl

body_again : (delta : ℕ) (r : Record) (rest : List ℕ) → delta < 2 ^ 31 → IsRecord r → length (body_bytes delta r ++ rest) < 2 ^ 31 → after_body delta (body_bytes delta r ++ rest) ≡ Some rest
unfolding after_body
body_again delta r rest delta_lt is lt =
    let short = are_short delta r rest lt in
    rw (parts_read delta r rest delta_lt is lt, eq-eqb delta delta refl) (headers_again r.headers rest short.headers)

-- ---- a record

whole_some : (rest : List ℕ) (o : Option (List ℕ)) (y : List ℕ) → whole rest o ≡ Some y → (o ≡ Some []) × (rest ≡ y)
whole_some rest None y e = absurd cc
whole_some rest (Some []) y e = (refl, same_some rest y e)
whole_some rest (Some (b ∷ bs)) y e = absurd cc

pub record_takes : (delta : ℕ) (bytes rest : List ℕ) → IsBytes bytes → after_record delta bytes ≡ Some rest → (r : Record) × IsRecord r × (bytes ≡ record_bytes delta r ++ rest)
unfolding after_record
record_takes delta bytes rest fits e =
    let f : List ℕ × List ℕ → Option (List ℕ) = λ framed. whole framed.1 (after_body delta framed.0) in
    let b = bind_some (key_at bytes) f rest e in
    let body = b.0.0 in
    let w = whole_some b.0.1 (after_body delta body) rest b.2 in
    let key = key_takes bytes body b.0.1 fits b.1 in
    let text = field (Varint (pos (length body))) in
    let behind_length = tail_fits bytes text (body ++ b.0.1) (key ∙ append_assoc text body b.0.1) fits in
    let fits_body = subst IsBytes (take_at body b.0.1 (length body) refl) (IsBytes-take (length body) (body ++ b.0.1) behind_length) in
    let r = body_takes delta body [] fits_body w.0 in
    let is : body ≡ body_bytes delta r.0 = r.2 ∙ append-nil (body_bytes delta r.0) in
    (r.0, r.1, key ∙ ap (λ (xs : List ℕ). sized (Some xs) ++ b.0.1) is ∙ ap (λ (xs : List ℕ). record_bytes delta r.0 ++ xs) w.1)

pub record_again : (delta : ℕ) (r : Record) (rest : List ℕ) → delta < 2 ^ 31 → IsRecord r → length (record_bytes delta r ++ rest) < 2 ^ 31 → after_record delta (record_bytes delta r ++ rest) ≡ Some rest
unfolding after_record
record_again delta r rest delta_lt is lt =
    let body = body_bytes delta r in
    let short : length (body ++ []) < 2 ^ 31 = omega (arith, length-append body [], length-append (sized (Some body)) rest, sized_len body) in
    let again : after_body delta body ≡ Some [] = ap (after_body delta) (sym (append-nil body)) ∙ body_again delta r [] delta_lt is short in
    rw (key_reads body rest lt, again) refl
