-- Digits that are written and read by tables.
use Rattle.std.proofs.Common.{◌≡◌, ℕ, zero, suc, ◌+◌, ◌*◌, ◌/◌, ◌%◌, ◌<◌, ◌≤◌, List, [], ◌∷◌, length, slice_index, Option, Some, None, unwrap_or, Result, Ok, Err, refl, ap, ◌∙◌, arith}
use Rattle.std.specs.Prelude.{MatchBool, MatchResult, ltb, slice_set}
use Rattle.std.specs.Int.Bits.{bit_or}
use Rattle.std.proofs.Common.{take, drop, sym, inl, inr}
use Rattle.std.proofs.lemmas.Bool.{cases_lt, lt-ltb, le-ltb}
use Rattle.std.proofs.lemmas.Nat.{or_lt, le_or_l, le_or_r}
use Rattle.hex.specs.Hex.{decode_of, encode_with, encode_lower, lower_digits, hex_digit_value, decode_pairs, decode_sized, pair_value}
use Rattle.hex.specs.declared.error.FromHexError.{FromHexError}
use Rattle.hex.specs.declared.error.FromHexError.TheVariants.{InvalidHexCharacter}
use Rattle.hex.proofs.HexLemmas.{decode_of-even, length-encode_with}
use Rattle.hex.proofs.Pairs.{prepend, decode_step, decode_done, decode_err}
use Rattle.trace_file.specs.DigitTables.{ArePairs, value_or_none}

-- the two digits of a byte
pub two_digits : (pairs : List ℕ) (byte : ℕ) → ArePairs pairs → byte < 256
    → (slice_index pairs (2 * byte) ≡ slice_index lower_digits (byte / 16)) × (slice_index pairs (2 * byte + 1) ≡ slice_index lower_digits (byte % 16))
unfolding encode_with
two_digits pairs byte h low = let two = h.each byte low in (cc two, cc two)

-- the digits of a byte stand at twice its place
encoded_at : (t xs : List ℕ) (i : ℕ) → i < length xs
    → (slice_index (encode_with t xs) (2 * i) ≡ slice_index t (slice_index xs i / 16)) × (slice_index (encode_with t xs) (2 * i + 1) ≡ slice_index t (slice_index xs i % 16))
unfolding encode_with
encoded_at t [] i lt = absurd (omega arith)
encoded_at t (x ∷ xs) zero lt = (refl, refl)
encoded_at t (x ∷ xs) (suc i) lt =
    let next = encoded_at t xs i (omega arith) in
    let high : 2 * suc i ≡ suc (suc (2 * i)) = omega arith in
    let low : 2 * suc i + 1 ≡ suc (suc (2 * i + 1)) = omega arith in
    (ap (slice_index (encode_with t (x ∷ xs))) high ∙ next.0, ap (slice_index (encode_with t (x ∷ xs))) low ∙ next.1)

-- the text of all bytes in order has the digits of each byte
pub pairs_made : (bytes pairs : List ℕ) → length bytes ≡ 256 → ((byte : ℕ) → byte < 256 → slice_index bytes byte ≡ byte) → pairs ≡ encode_lower bytes → ArePairs pairs
unfolding encode_with
pairs_made bytes pairs all every made = record {
  all = ap length made ∙ length-encode_with lower_digits bytes ∙ ap (λ (n : ℕ). 2 * n) all;
  each = λ byte low.
      let two = encoded_at lower_digits bytes byte (omega (arith, all)) in
      let is = every byte low in
      rw (made, two.0, two.1, is) refl;
}

-- what the crate `hex` reads of a digit after a 0
pub value_read : (digit : ℕ) (r : Result Unit FromHexError) (out : List ℕ)
    → MatchResult (decode_sized (48 ∷ digit ∷ []) 1) (λ bytes. (r ≡ Ok tt) × (out ≡ bytes)) (λ e. r ≡ Err e)
    → MatchResult r (λ done. slice_index out 0 ≡ value_or_none digit) (λ e. 256 ≡ value_or_none digit)
unfolding decode_pairs
value_read digit r out h = by_value (hex_digit_value digit) refl
  where
    by_value : (v : Option ℕ) → hex_digit_value digit ≡ v → MatchResult r (λ done. slice_index out 0 ≡ value_or_none digit) (λ e. 256 ≡ value_or_none digit)
    by_value (Some d) is =
        let none : 0 + d ≡ d = omega arith in
        let ok : decode_sized (48 ∷ digit ∷ []) 1 ≡ Ok (d ∷ []) = rw (is, none) refl in
        let both = rw ok at h in
        rw (both.0, both.1, is) refl
    by_value None is =
        let err : decode_sized (48 ∷ digit ∷ []) 1 ≡ Err (InvalidHexCharacter digit 1) = rw is refl in
        let bad = rw err at h in
        rw (bad, is) refl

value_small : (digit value : ℕ) → hex_digit_value digit ≡ Some value → value < 16
value_small digit value h = grind (arith)

pub value_least : (digit : ℕ) → value_or_none digit ≤ 256
value_least digit = by_value (hex_digit_value digit) refl
  where
    by_value : (v : Option ℕ) → hex_digit_value digit ≡ v → value_or_none digit ≤ 256
    by_value (Some d) is = rw is (omega (arith, value_small digit d is))
    by_value None is = rw is (omega arith)

-- the sum of two digits that were looked up is their byte
pub sum_read : (high low at : ℕ) → value_or_none high * 16 + value_or_none low < 256 → pair_value high low at ≡ Ok (value_or_none high * 16 + value_or_none low)
sum_read high low at small = by_values (hex_digit_value high) (hex_digit_value low) refl refl
  where
    by_values : (a b : Option ℕ) → hex_digit_value high ≡ a → hex_digit_value low ≡ b → pair_value high low at ≡ Ok (value_or_none high * 16 + value_or_none low)
    by_values (Some a) (Some b) ia ib = rw (ia, ib) refl
    by_values (Some a) None ia ib = let none : value_or_none low ≡ 256 = ap (λ (v : Option ℕ). unwrap_or v 256) ib in absurd (omega (arith, small, none))
    by_values None b ia ib = let none : value_or_none high ≡ 256 = ap (λ (v : Option ℕ). unwrap_or v 256) ia in absurd (omega (arith, small, none))

-- where one is no digit, the sum is no byte
pub sum_unread : (high low at : ℕ) → 256 ≤ value_or_none high * 16 + value_or_none low → (e : FromHexError) × (pair_value high low at ≡ Err e)
sum_unread high low at great = by_values (hex_digit_value high) (hex_digit_value low) refl refl
  where
    by_values : (a b : Option ℕ) → hex_digit_value high ≡ a → hex_digit_value low ≡ b → (e : FromHexError) × (pair_value high low at ≡ Err e)
    by_values (Some a) (Some b) ia ib =
        let ha : value_or_none high ≡ a = ap (λ (v : Option ℕ). unwrap_or v 256) ia in
        let lb : value_or_none low ≡ b = ap (λ (v : Option ℕ). unwrap_or v 256) ib in
        absurd (omega (arith, great, ha, lb, value_small high a ia, value_small low b ib))
    by_values (Some a) None ia ib = (InvalidHexCharacter low (at + 1), rw (ia, ib) refl)
    by_values None b ia ib = (InvalidHexCharacter high at, rw ia refl)

-- ---- the bytes of a text of digits, so far

abbrev pub Good : List ℕ → List ℕ → ℕ → Type 0
Good digits out i = decode_pairs 0 digits ≡ prepend (take i out) (decode_pairs (2 * i) (drop (2 * i) digits))

abbrev pub Bad : List ℕ → Type 0
Bad digits = (e : FromHexError) × (decode_pairs 0 digits ≡ Err e)

-- one more sum, which is a byte or not
pub sums_on : (digits out : List ℕ) (i seen a b : ℕ) → 2 * i + 1 < length digits → i < length out → a ≡ value_or_none (slice_index digits (2 * i)) * 16
    → b ≡ value_or_none (slice_index digits (2 * i + 1)) → (seen < 256 → Good digits out i) → (256 ≤ seen → Bad digits)
    → (bit_or seen (a + b) < 256 → Good digits (slice_set out i ((a + b) % 256)) (i + 1)) × (256 ≤ bit_or seen (a + b) → Bad digits)
sums_on digits out i seen a b fits room ea eb good bad =
    let h = slice_index digits (2 * i) in
    let l = slice_index digits (2 * i + 1) in
    let is : a + b ≡ value_or_none h * 16 + value_or_none l = omega (arith, ea, eb) in (
      λ small.
          let sum : a + b < 256 = omega (arith, small, le_or_r seen (a + b)) in
          let was : seen < 256 = omega (arith, small, le_or_l seen (a + b)) in
          let whole : (a + b) % 256 ≡ a + b = omega (arith, sum) in
          let ok : pair_value h l (2 * i) ≡ Ok ((a + b) % 256) = sum_read h l (2 * i) (omega (arith, is, sum)) ∙ ap (λ (v : ℕ). Ok v) (sym is ∙ sym whole) in
          decode_step digits out i ((a + b) % 256) fits room ok (good was),
      λ great.
          elim (cases_lt seen 256) [
            | inl small ↦ elim (cases_lt (a + b) 256) [
              | inl sum ↦ absurd (omega (arith, great, or_lt 8 seen (a + b) small sum))
              | inr sum ↦
                  let e = sum_unread h l (2 * i) (omega (arith, is, sum)) in
                  (e.0, decode_err digits out i e.0 fits e.1 (good small))
            ]
            | inr was ↦ bad was
          ],
    )

-- all of them
pub sums_end : (digits out : List ℕ) (i seen : ℕ) → length out ≤ i → length digits ≤ 2 * i → length digits % 2 ≡ 0 → (seen < 256 → Good digits out i) → (256 ≤ seen → Bad digits)
    → MatchBool (ltb seen 256) (decode_of digits ≡ Ok out) ((e : FromHexError) × (decode_of digits ≡ Err e))
sums_end digits out i seen all whole even good bad =
    elim (cases_lt seen 256) [
      | inl small ↦ rw (lt-ltb seen 256 small) (decode_of-even digits even ∙ decode_done digits out i all whole (good small))
      | inr great ↦ let e = bad great in rw (le-ltb seen 256 great) (e.0, decode_of-even digits even ∙ e.1)
    ]
