-- CRC-32C (RFC 3720, appendix B.4; the polynomial of Castagnoli): the remainder of the message's bits, taken one by
-- one with the reflected polynomial, from all ones, and inverted at the end.
use Rattle.std.specs.Prelude.{ℕ, zero, suc, ◌-◌, ◌/◌, ◌%◌, ◌^◌, List, [], ◌∷◌, fold, if◌then◌else◌, ◌==◌}
use Rattle.std.specs.List.{flat_map}
use Rattle.std.specs.Int.Bits.{bit_xor}

-- 0x82F63B78
abbrev pub polynomial : ℕ
polynomial = 2197175160

abbrev pub all_ones : ℕ
all_ones = 2 ^ 32 - 1

-- so many bits of a number, the lowest first
unfoldable pub bits_of : ℕ → ℕ → List ℕ
bits_of zero n = []
bits_of (suc more) n = n % 2 ∷ bits_of more (n / 2)

-- a message's bits in the order in which they are taken
abbrev pub message_bits : List ℕ → List ℕ
message_bits bytes = flat_map (bits_of 8) bytes

-- the remainder after one more bit
unfoldable pub after_bit : ℕ → ℕ → ℕ
after_bit remainder bit = if remainder % 2 == bit then remainder / 2 else bit_xor (remainder / 2) polynomial

unfoldable pub crc32c_of : List ℕ → ℕ
crc32c_of bytes = bit_xor (fold after_bit all_ones (message_bits bytes)) all_ones
