-- Numbers that stand once at most are apart.
use Rattle.std.proofs.Common.{◌≡◌, ◌≢◌, ℕ, zero, suc, ◌<◌, ◌≤◌, ◌==◌, Bool, true, false, List, [], ◌∷◌, AllPairs, length, map, slice_index_or, refl, sym, ap, subst, arith, eq-eqb}
use Rattle.std.proofs.lemmas.List.Kept.{AllPairs-cons}
use Rattle.std.specs.Prelude.{nat_lt}
use Rattle.audit.specs.declared.account.Account.{Account}
use Rattle.audit.specs.declared.account.Transcript.{Transcript}
use Rattle.audit.specs.IsLawful.{IsLawful}
use Rattle.audit.specs.Printable.{IsPrintable}
use Rattle.audit.specs.Printed.{transcripts_of}
use Rattle.link_lanes.specs.books.Shown.{ShownLink}
use Rattle.link_lanes.specs.books.Times.{once_below, one_where, times}
use Rattle.link_lanes.specs.books.Together.{AreServed}

same_counts : (n : ℕ) → one_where (n == n) ≡ 1
same_counts n = ap (λ (b : Bool). one_where b) (eq-eqb n n refl)

-- a number that is in the list stands there at least once
stands : (n : ℕ) (xs : List ℕ) (k d : ℕ) → k < length xs → slice_index_or xs k d ≡ n → 1 ≤ times n xs
stands n [] k d less is = absurd (omega (arith, less))
stands n (x ∷ xs) zero d less is = let here : one_where (x == n) ≡ 1 = subst (λ (m : ℕ). one_where (m == n) ≡ 1) (sym is) (same_counts n) in omega (arith, here)
stands n (x ∷ xs) (suc k) d less is = omega (arith, stands n xs k d (omega (arith, less)) is)

at_most_once : (bound n : ℕ) → once_below bound n ≤ 1
at_most_once bound n = by_test (nat_lt n bound)
  where
    by_test : (b : Bool) → one_where b ≤ 1
    by_test true = omega arith
    by_test false = omega arith

module _ {A : Type 0} (number : A → ℕ) where
  numbered_there : (xs : List A) (k : ℕ) (d : A) → k < length xs → 1 ≤ times (number (slice_index_or xs k d)) (map number xs)
  numbered_there [] k d less = absurd (omega (arith, less))
  numbered_there (x ∷ xs) zero d less = let here = same_counts (number x) in omega (arith, here)
  numbered_there (x ∷ xs) (suc k) d less = omega (arith, numbered_there xs k d (omega (arith, less)))

  -- where each number stands once at most, no two have one
  pub apart : (xs : List A) → ((n : ℕ) → times n (map number xs) ≤ 1) → AllPairs (λ a b. number a ≢ number b) xs
  apart [] once = λ i j d less within. absurd (omega (arith, within))
  apart (x ∷ xs) once =
      AllPairs-cons (λ a b. number a ≢ number b) x xs
      (λ k d less same.
      let there : 1 ≤ times (number (slice_index_or xs k d)) (map number xs) = numbered_there xs k d less in
      let here : one_where (number x == number (slice_index_or xs k d)) ≡ 1 = subst (λ (m : ℕ). one_where (number x == m) ≡ 1) same (same_counts (number x)) in
      let most = once (number (slice_index_or xs k d)) in
      absurd (omega (arith, there, here, most)))
      (apart xs (λ n. omega (arith, once n)))

pub printable : (account : Account) (given : ℕ) (retired : List (ℕ × ShownLink)) → IsLawful account → AreServed account given retired → IsPrintable account
printable account given retired lawful served = record {
  lawful = lawful;
  told = served.told;
  once = apart (λ (t : Transcript). t.number) (transcripts_of account) (λ n. omega (arith, served.one n, at_most_once given n));
}
