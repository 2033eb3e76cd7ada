-- Sums over the parts of all seats, where one seat's parts or two's change.
use Rattle.std.proofs.Common.{◌≡◌, ℕ, zero, suc, ◌+◌, ◌≤◌, ◌≢◌, eqb, List, [], ◌∷◌, set, sym, ap, ◌∙◌, arith, eq-eqb}
use Rattle.std.specs.Prelude.{All, sum_by}
use Rattle.std.proofs.lemmas.List.Sums.{sum_by-cons}
use Rattle.std.proofs.lemmas.List.Elements.{All-nil, All-cons}
use mathlib.Core.Option.{some, some-injective, some-ne-none}
use lib.ListN.{get_elem?}
use Rattle.atomic_table.proofs.Lists.{set_else}
use Rattle.room_table.specs.Shown.{one_if}

module _ {A : Type 0} (f : A → ℕ) where
  -- the sum after a change of one element
  pub sum_by_set : (xs : List A) (i : ℕ) (v w : A) → get_elem? xs i ≡ some v → sum_by f (set xs i w) + f v ≡ sum_by f xs + f w
  sum_by_set [] i v w at = absurd (some-ne-none v (sym at))
  sum_by_set (x ∷ xs) zero v w at =
      let is : f x ≡ f v = ap f (some-injective x v at) in
      omega (arith, sum_by-cons f x xs, sum_by-cons f w xs)
  sum_by_set (x ∷ xs) (suc i) v w at = omega (arith, sum_by-cons f x xs, sum_by-cons f x (set xs i w), sum_by_set xs i v w at)

  -- one element is at most the sum
  pub one_le : (xs : List A) (i : ℕ) (v : A) → get_elem? xs i ≡ some v → f v ≤ sum_by f xs
  one_le [] i v at = absurd (some-ne-none v (sym at))
  one_le (x ∷ xs) zero v at = let is : f x ≡ f v = ap f (some-injective x v at) in omega (arith, sum_by-cons f x xs)
  one_le (x ∷ xs) (suc i) v at = omega (arith, sum_by-cons f x xs, one_le xs i v at)

  -- two elements are together at most the sum
  pub two_le : (z : A) → f z ≡ 0 → (xs : List A) (i j : ℕ) (v w : A) → j ≢ i → get_elem? xs i ≡ some v → get_elem? xs j ≡ some w → f v + f w ≤ sum_by f xs
  two_le z none xs i j v w apart at at' = omega (arith, sum_by_set xs i v z at, one_le (set xs i z) j w (set_else xs i j z apart ∙ at'), none)

-- no element counts where the count is 0
pub none_counts : {A : Type 0} (f : A → ℕ) (n : ℕ) → (xs : List A) → sum_by (λ x. one_if (eqb (f x) n)) xs ≤ 0 → All (λ x. f x ≢ n) xs
none_counts f n [] le = All-nil _
none_counts {A} f n (x ∷ xs) le =
    let P : A → Type 0 = λ y. f y ≢ n in
    let cons = sum_by-cons (λ (y : A). one_if (eqb (f y) n)) x xs in
    All-cons P x xs
    (λ is. let one : one_if (eqb (f x) n) ≡ 1 = ap one_if (eq-eqb (f x) n is) in absurd (omega arith))
    (none_counts f n xs (omega arith))
