-- What stands in a batch's header, by place (Kafka's record batch format, version 2).
use Rattle.std.specs.Prelude.{ℕ, ℤ, List, take, drop}
use Rattle.std.specs.Int.{Width, w8, w16, w32, byte_len, from_be_bytes, cast_signed}

abbrev pub kept_number : Width → ℕ → List ℕ → ℕ
kept_number w place bytes = from_be_bytes w (take (byte_len w) (drop place bytes))

abbrev pub kept_integer : Width → ℕ → List ℕ → ℤ
kept_integer w place bytes = cast_signed w (kept_number w place bytes)

unfoldable pub kept_length : List ℕ → ℤ
kept_length bytes = kept_integer w32 8 bytes

unfoldable pub kept_magic : List ℕ → ℤ
kept_magic bytes = kept_integer w8 16 bytes

unfoldable pub kept_crc : List ℕ → ℕ
kept_crc bytes = kept_number w32 17 bytes

unfoldable pub kept_attributes : List ℕ → ℕ
kept_attributes bytes = kept_number w16 21 bytes

unfoldable pub kept_last : List ℕ → ℤ
kept_last bytes = kept_integer w32 23 bytes

unfoldable pub kept_count : List ℕ → ℤ
kept_count bytes = kept_integer w32 57 bytes

-- the number of records that the header tells
unfoldable pub count_of : List ℕ → ℕ
count_of bytes = kept_number w32 57 bytes
