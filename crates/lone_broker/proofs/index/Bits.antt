-- The bits of a set.
use Rattle.std.proofs.Common.{◌≡◌, ◌≢◌, ℕ, ◌+◌, ◌-◌, ◌*◌, ◌/◌, ◌%◌, ◌^◌, ◌<◌, ◌≤◌, ◌↔◌, ◌⊎◌, inl, inr, ⊎_elim, ap, sym, ◌∙◌, arith, eqb, true, eqb-true, eq-eqb, w64}
use Rattle.std.specs.Prelude.{bit_and, bit_or}
use Rattle.std.specs.Int.{bit_at, bit_not, trailing_zeros}
use Rattle.std.proofs.lemmas.Nat.{and_le_l, shr-shr, shr_le}
use Rattle.std.proofs.lemmas.Nat.Bits.{bit_at-zero, bit_at_above, bit_at_set_same, bit_at_set_other, bit_at_clear_same, bit_at_clear_other, bit_at-trailing_zeros, shr_and_one}
use Rattle.std.proofs.lemmas.Bool.{cases_eq, cases_lt}
use Rattle.lone_broker.specs.index.Sessions.{Has, IsLeastFrom}

-- a bit is not both
two_bits : (bit : ℕ) → bit ≡ 0 → bit ≡ 1 → ⊥
two_bits bit none one = omega arith

pub none_has : (session : ℕ) → ¬ Has 0 session
unfolding Has
none_has session h = two_bits (bit_at 0 session) (bit_at-zero session) h

-- a word has no member past its bits
pub past_has : (word session : ℕ) → word < 2 ^ 64 → 64 ≤ session → ¬ Has word session
unfolding Has
past_has word session small past h = two_bits (bit_at word session) (bit_at_above word 64 session small past) h

pub insert_has : (word k : ℕ) → k < 64 → (other : ℕ) → Has (bit_or word (1 * 2 ^ k % 2 ^ 64)) other ↔ (Has word other ⊎ (other ≡ k))
unfolding Has
insert_has word k within other =
    let new : ℕ = bit_or word (1 * 2 ^ k % 2 ^ 64) in
    ⊎_elim
    (λ (same : other ≡ k). (
      (λ (h : bit_at new other ≡ 1). let r : (bit_at word other ≡ 1) ⊎ (other ≡ k) = inr same in r),
      (λ (h : (bit_at word other ≡ 1) ⊎ (other ≡ k)). ap (bit_at new) same ∙ bit_at_set_same w64 word k within),
    ))
    (λ (differs : other ≢ k).
    let e : bit_at new other ≡ bit_at word other = bit_at_set_other w64 word k within other differs in (
      (λ (h : bit_at new other ≡ 1). let r : (bit_at word other ≡ 1) ⊎ (other ≡ k) = inl (sym e ∙ h) in r),
      (λ (h : (bit_at word other ≡ 1) ⊎ (other ≡ k)). ⊎_elim (λ (old : bit_at word other ≡ 1). e ∙ old) (λ (same : other ≡ k). absurd (differs same)) h),
    ))
    (cases_eq other k)

-- a cleared bit changes no other
clear_other : (word k : ℕ) → word < 2 ^ 64 → k < 64 → (other : ℕ) → other ≢ k → bit_at (bit_and word (bit_not w64 (1 * 2 ^ k % 2 ^ 64))) other ≡ bit_at word other
clear_other word k small within other differs =
    ⊎_elim
    (λ (l : other < 64). bit_at_clear_other w64 word k within other l differs)
    (λ (l : 64 ≤ other).
    let low = and_le_l word (bit_not w64 (1 * 2 ^ k % 2 ^ 64)) in
    bit_at_above (bit_and word (bit_not w64 (1 * 2 ^ k % 2 ^ 64))) 64 other (omega arith) l ∙ sym (bit_at_above word 64 other small l))
    (cases_lt other 64)

pub remove_has : (word k : ℕ) → word < 2 ^ 64 → k < 64 → (other : ℕ) → Has (bit_and word (bit_not w64 (1 * 2 ^ k % 2 ^ 64))) other ↔ (Has word other × (other ≢ k))
unfolding Has
remove_has word k small within other =
    let new : ℕ = bit_and word (bit_not w64 (1 * 2 ^ k % 2 ^ 64)) in (
      (λ (h : bit_at new other ≡ 1).
          let differs : other ≢ k = λ same. two_bits (bit_at new other) (ap (bit_at new) same ∙ bit_at_clear_same w64 word k within) h in
          (sym (clear_other word k small within other differs) ∙ h, differs)),
      (λ (h : (bit_at word other ≡ 1) × (other ≢ k)). clear_other word k small within other h.1 ∙ h.0),
    )

-- what `(word >> k) & 1 == 1` tells
pub has_tests : (word k : ℕ) → (eqb (bit_and (word / 2 ^ k) 1) 1 ≡ true) ↔ Has word k
unfolding Has
has_tests word k = ((λ t. sym (shr_and_one word k) ∙ eqb-true _ 1 t), (λ h. eq-eqb _ 1 (shr_and_one word k ∙ h)))

-- the bits from a place on
shifted : (word from i : ℕ) → bit_at (word / 2 ^ from) i ≡ bit_at word (from + i)
shifted word from i = ap (λ n. n % 2) (shr-shr word from i)

shifted_at : (word from other : ℕ) → from ≤ other → bit_at (word / 2 ^ from) (other - from) ≡ bit_at word other
shifted_at word from other l = let e : from + (other - from) ≡ other = omega arith in shifted word from (other - from) ∙ ap (bit_at word) e

module _ (word from : ℕ) (small : word < 2 ^ 64) (some : 0 < word / 2 ^ from) where
  abbrev lowest : ℕ
  lowest = trailing_zeros w64 (word / 2 ^ from)

  lowest_is : (lowest < 64) × (bit_at (word / 2 ^ from) lowest ≡ 1) × ((i : ℕ) → i < lowest → bit_at (word / 2 ^ from) i ≡ 0)
  lowest_is = bit_at-trailing_zeros w64 (word / 2 ^ from) some (let low = shr_le word from in omega arith)

  pub lowest_within : from + lowest < 64
  lowest_within =
      ⊎_elim
      (λ (l : from + lowest < 64). l)
      (λ (l : 64 ≤ from + lowest). absurd (two_bits (bit_at word (from + lowest)) (bit_at_above word 64 (from + lowest) small l) (sym (shifted word from lowest) ∙ lowest_is.1)))
      (cases_lt (from + lowest) 64)

  -- the lowest bit from a place on is the least member from there
  pub lowest_least : IsLeastFrom word from (from + lowest)
  unfolding Has
  lowest_least = record {
    member = sym (shifted word from lowest) ∙ lowest_is.1;
    above = omega arith;
    least = λ other above h.
        ⊎_elim
        (λ (before : other < from + lowest). absurd (two_bits (bit_at word other) (sym (shifted_at word from other above) ∙ lowest_is.2 (other - from) (omega arith)) h))
        (λ (after : from + lowest ≤ other). after)
        (cases_lt other (from + lowest));
  }

-- no bit from a place on is no member from there
pub none_from : (word from : ℕ) → word / 2 ^ from ≡ 0 → (session : ℕ) → from ≤ session → ¬ Has word session
unfolding Has
none_from word from empty session above h =
    two_bits (bit_at word session) (sym (shifted_at word from session above) ∙ ap (λ n. bit_at n (session - from)) empty ∙ bit_at-zero (session - from)) h
