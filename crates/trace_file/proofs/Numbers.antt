-- Numbers as decimal digits.
use Rattle.std.proofs.Common.{◌≡◌, ℕ, ◌+◌, ◌-◌, ◌*◌, ◌^◌, ◌<◌, ◌≤◌, List, length, get_or, take, sym, ap, ◌∙◌, arith, inl, inr, lit≤}
use Rattle.std.proofs.lemmas.Bool.{cases_lt}
use Rattle.std.proofs.lemmas.Bool.Decides.{nat_tests}
use Rattle.std.proofs.lemmas.Fmt.{decimal_is_IsNumeral, decimal_digit, first_decimal, decimal-digits_value}
use Rattle.std.proofs.lemmas.Int.Digits.{digits_value_more}
use Rattle.std.proofs.lemmas.Str.Parse.{IsNumeralModel, numerals_by_value, tells_digits, digits_value-take-le, digit_at}
use Rattle.std.specs.Char.{digit_value}
use Rattle.std.specs.Fmt.{decimal}
use Rattle.std.specs.Str.Parse.{AllDigits, digits_value}

abbrev decimals : IsNumeralModel (AllDigits 10) (digits_value 10)
decimals = numerals_by_value (AllDigits 10) tells_digits

pub digit_below : (c : ℕ) → 48 ≤ c → c ≤ 57 → digit_value c < 10
digit_below c low high = grind (arith, nat_tests)

pub digit_value-digit : (c : ℕ) → 48 ≤ c → c ≤ 57 → digit_value c ≡ c - 48
digit_value-digit c low high = grind (arith, nat_tests)

-- the first digit that makes the number too great
pub too_great : (word : List ℕ) (i n : ℕ) → i < length word → n ≡ digits_value 10 (take i word)
    → ¬ ((digit_value (get_or word i 0) < 10) × (n * 10 + digit_value (get_or word i 0) < 2 ^ 64)) → AllDigits 10 word → 2 ^ 64 ≤ digits_value 10 word
too_great word i n lt is refused all =
    let at = digit_at word i all lt in
    let small : digit_value (get_or word i 0) < 10 = digit_below (get_or word i 0) at.0 at.1 in
    elim (cases_lt (n * 10 + digit_value (get_or word i 0)) (2 ^ 64)) [
      | inl below ↦ absurd (refused (small, below))
      | inr above ↦ omega (arith, digits_value_more 10 word i lt, digits_value-take-le 10 word (i + 1) (lit≤ tt))
    ]

-- what digits without a leading zero write, is written so
pub digits_are : (word : List ℕ) (n : ℕ) → 0 < length word → (get_or word 0 0 ≡ 48 → length word ≡ 1) → AllDigits 10 word → n ≡ digits_value 10 word → n < 2 ^ 64 → word ≡ decimal n
digits_are word n some lead all is fits =
    let written : decimal (digits_value 10 word) ≡ word = decimal-digits_value decimals word all some lead (omega arith) in
    sym written ∙ ap decimal (sym is)

pub decimal_leads : (n : ℕ) → n < 2 ^ 64 → get_or (decimal n) 0 0 ≡ 48 → length (decimal n) ≡ 1
decimal_leads n fits zero =
    elim (cases_lt 0 n) [
      | inl above ↦ absurd (omega (arith, first_decimal n above fits))
      | inr none ↦ let small : n < 10 = omega arith in ap length (decimal_digit n small)
    ]

pub decimal_value : (n : ℕ) → n < 2 ^ 64 → AllDigits 10 (decimal n) × (digits_value 10 (decimal n) ≡ n)
decimal_value n fits = let is = decimal_is_IsNumeral n fits in (is.0.1, is.1)
