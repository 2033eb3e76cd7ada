-- A record read from the left: each part with its value and what stands after it, or None where the part doesn't read.
use Rattle.std.specs.Prelude.{◌≡◌, ℕ, zero, suc, ℤ, pos, negsuc, List, [], ◌∷◌, length, take, drop, Option, Some, None, Result, Ok, Err, nat_lt, ◌==◌, if◌then◌else◌}
use Rattle.std.specs.Int.{w8}
use Rattle.kbytes.specs.declared.fault.ByteFault.{ByteFault}
use Rattle.kbytes.specs.Cursor.{Cursor, rest_of}
use Rattle.kbytes.specs.Reading.{integer_at, varint_at, varlong_at}
use Rattle.kbatch.specs.declared.record.Header.{Header}

infixl 10 ◌>>=◌
abbrev pub ◌>>=◌ : {A B : Type 0} → Option A → (A → Option B) → Option B
None >>= f = None
(Some x) >>= f = f x

-- what a function returned, seen by view, is what reading gives
abbrev pub Gives : {X Y : Type 0} → (X → Y) → Option X → Option Y → Type 0
Gives view None read = read ≡ None
Gives view (Some x) read = read ≡ Some (view x)

abbrev pub front : List ℕ → Cursor
front bytes = record { bytes = bytes; at = 0 }

abbrev pub behind : {X : Type 0} → Result (X × Cursor) ByteFault → Option (X × List ℕ)
behind (Ok x) = Some (x.0, rest_of x.1)
behind (Err e) = None

unfoldable pub after_varint : List ℕ → Option (ℤ × List ℕ)
after_varint bytes = behind (varint_at (front bytes))

unfoldable pub after_varlong : List ℕ → Option (ℤ × List ℕ)
after_varlong bytes = behind (varlong_at (front bytes))

unfoldable pub after_int8 : List ℕ → Option (ℤ × List ℕ)
after_int8 bytes = behind (integer_at w8 (front bytes))

-- so many bytes, and what stands after them
unfoldable pub part_at : ℕ → List ℕ → Option (List ℕ × List ℕ)
part_at n bytes = if nat_lt (length bytes) n then None else Some (take n bytes, drop n bytes)

abbrev pub part_after : ℤ × List ℕ → Option (List ℕ × List ℕ)
part_after (pos n, rest) = part_at n rest
part_after (negsuc n, rest) = None

abbrev pub part_or_null_after : ℤ × List ℕ → Option (Option (List ℕ) × List ℕ)
part_or_null_after (pos n, rest) = part_at n rest >>= λ part. Some (Some part.0, part.1)
part_or_null_after (negsuc zero, rest) = Some (None, rest)
part_or_null_after (negsuc (suc n), rest) = None

unfoldable pub key_at : List ℕ → Option (List ℕ × List ℕ)
key_at bytes = after_varint bytes >>= part_after

unfoldable pub value_at : List ℕ → Option (Option (List ℕ) × List ℕ)
value_at bytes = after_varint bytes >>= part_or_null_after

unfoldable pub header_at : List ℕ → Option (Header × List ℕ)
header_at bytes = do
  key ← key_at bytes
  value ← value_at key.1
  Some (record { key = key.0; value = value.0 }, value.1)

-- the parts of a record, with its headers as bytes
pub record RecordParts : Type 0 where
  pub attributes : ℤ
  pub time : ℤ
  pub delta : ℤ
  pub key : Option (List ℕ)
  pub value : Option (List ℕ)
  pub count : ℕ
  pub headers : List ℕ

-- the number of headers, and their bytes
abbrev pub headers_after : ℤ × List ℕ → Option (ℕ × List ℕ)
headers_after (pos n, rest) = Some (n, rest)
headers_after (negsuc n, rest) = None

unfoldable pub parts_at : List ℕ → Option RecordParts
parts_at bytes = do
  attributes ← after_int8 bytes
  time ← after_varlong attributes.1
  delta ← after_varint time.1
  key ← value_at delta.1
  value ← value_at key.1
  counted ← after_varint value.1
  headers ← headers_after counted
  Some (record { attributes = attributes.0; time = time.0; delta = delta.0; key = key.0; value = value.0; count = headers.0; headers = headers.1 })

-- where headers end
unfoldable pub after_header : List ℕ → Option (List ℕ)
after_header bytes = header_at bytes >>= λ read. Some read.1

unfoldable pub after_headers : ℕ → List ℕ → Option (List ℕ)
after_headers zero bytes = Some bytes
after_headers (suc n) bytes = after_header bytes >>= after_headers n

-- what follows where the offset delta is this one
abbrev pub for_delta : ℕ → ℤ → Option (List ℕ) → Option (List ℕ)
for_delta delta (pos n) follows = if n == delta then follows else None
for_delta delta (negsuc n) follows = None

-- where what stands after a record's length ends
unfoldable pub after_body : ℕ → List ℕ → Option (List ℕ)
after_body delta bytes = parts_at bytes >>= λ parts. for_delta delta parts.delta (after_headers parts.count parts.headers)

-- the rest, where nothing is left of the body
abbrev pub whole : List ℕ → Option (List ℕ) → Option (List ℕ)
whole rest None = None
whole rest (Some []) = Some rest
whole rest (Some (b ∷ bs)) = None

-- where a record ends
unfoldable pub after_record : ℕ → List ℕ → Option (List ℕ)
after_record delta bytes = key_at bytes >>= λ framed. whole framed.1 (after_body delta framed.0)
