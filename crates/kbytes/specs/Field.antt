-- The fields of Kafka's wire format and of its record batches, as functions from values to bytes (Kafka protocol
-- guide, "Protocol Primitive Types"; record batch v2 for varints). Integers are big-endian two's complement.
use Rattle.std.specs.Prelude.{ℕ, zero, suc, ◌+◌, ◌*◌, ◌/◌, ◌%◌, ℤ, pos, negsuc, List, [], ◌∷◌, ◌++◌, length, Option, Some, None, nat_lt, if◌then◌else◌}
use Rattle.std.specs.List.{flat_map}
use Rattle.std.specs.Int.{Width, w8, w16, w32, w64, to_be_bytes, cast_unsigned}

-- a field with its value; a count of items stands before an array, and None is its null
pub data Field : Type 0 where
  Int8 : ℤ → Field
  Int16 : ℤ → Field
  Int32 : ℤ → Field
  Uint32 : ℕ → Field
  Int64 : ℤ → Field
  String : List ℕ → Field
  NullableString : Option (List ℕ) → Field
  Records : Option (List ℕ) → Field
  Array : Option ℕ → Field
  Varint : ℤ → Field
  Varlong : ℤ → Field

-- a signed integer
abbrev pub integer : Width → ℤ → List ℕ
integer w z = to_be_bytes w (cast_unsigned w z)

-- 0, -1, 1, -2, 2 and so on become 0, 1, 2, 3, 4
abbrev pub zigzag : ℤ → ℕ
zigzag (pos n) = 2 * n
zigzag (negsuc n) = 2 * n + 1

-- groups of seven bits, the lowest first, each but the last with the top bit set: at most `more` + 1 bytes
unfoldable pub groups : ℕ → ℕ → List ℕ
groups zero n = n ∷ []
groups (suc more) n = if nat_lt n 128 then n ∷ [] else (n % 128 + 128) ∷ groups more (n / 128)

-- a length, and that many bytes; -1 for null
abbrev pub sized : Width → Option (List ℕ) → List ℕ
sized w None = integer w (negsuc 0)
sized w (Some bytes) = integer w (pos (length bytes)) ++ bytes

abbrev pub count_or_null : Option ℕ → ℤ
count_or_null None = negsuc 0
count_or_null (Some n) = pos n

abbrev pub field : Field → List ℕ
field (Int8 z) = integer w8 z
field (Int16 z) = integer w16 z
field (Int32 z) = integer w32 z
field (Uint32 n) = to_be_bytes w32 n
field (Int64 z) = integer w64 z
field (String bytes) = sized w16 (Some bytes)
field (NullableString bytes) = sized w16 bytes
field (Records bytes) = sized w32 bytes
field (Array count) = integer w32 (count_or_null count)
field (Varint z) = groups 4 (zigzag z)
field (Varlong z) = groups 9 (zigzag z)

-- fields, one after the other
abbrev pub fields : List Field → List ℕ
fields fs = flat_map field fs
