-- The tables by which digits are written and read.
use Rattle.std.specs.Prelude.{ℕ, ◌≡◌, ◌<◌, ◌+◌, ◌*◌, List, [], ◌∷◌, length, slice_index, unwrap_or}
use Rattle.hex.specs.Hex.{encode_lower, hex_digit_value}
use Rattle.trace_file.specs.declared.digits.TheConstants.{BYTES}
use Rattle.trace_file.specs.declared.digit_values.TheConstants.{NO_DIGIT}

-- the two digits of each byte, in lower case
pub record ArePairs (pairs : List ℕ) : Type 0 where
  pub all : length pairs ≡ 2 * BYTES
  pub each : (byte : ℕ) → byte < BYTES → slice_index pairs (2 * byte) ∷ slice_index pairs (2 * byte + 1) ∷ [] ≡ encode_lower (byte ∷ [])

-- the value of a digit, or what says that it is none
abbrev pub value_or_none : ℕ → ℕ
value_or_none digit = unwrap_or (hex_digit_value digit) NO_DIGIT

-- the values of all digits: of the first of two, as what it adds to their byte, and of the second
pub record AreValues (high low : List ℕ) : Type 0 where
  pub all_high : length high ≡ BYTES
  pub all_low : length low ≡ BYTES
  pub each_high : (digit : ℕ) → digit < BYTES → slice_index high digit ≡ value_or_none digit * 16
  pub each_low : (digit : ℕ) → digit < BYTES → slice_index low digit ≡ value_or_none digit
