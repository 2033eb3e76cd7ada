-- Sums over the passes of all views, where one view or two change.
use Rattle.std.proofs.Common.{⊎_elim, ◌≡◌, ℕ, zero, suc, ◌+◌, ◌<◌, ◌≤◌, ◌≢◌, Bool, true, false, eqb, List, [], ◌∷◌, length, set, refl, sym, ap, ◌∙◌, arith, eq-eqb}
use Rattle.std.specs.Prelude.{All, sum_by}
use Rattle.std.proofs.lemmas.List.Sums.{sum_by-cons}
use Rattle.std.proofs.lemmas.List.Elements.{All-nil, All-cons, All-head, All-tail}
use Rattle.std.proofs.lemmas.Bool.{cases_eq}
use mathlib.Core.Option.{some, some-injective, some-ne-none}
use lib.ListN.{get_elem?}
use Rattle.atomic_table.proofs.Lists.{set_else}
use Rattle.turn_lock.specs.InLine.{one_if}

module _ {A : Type 0} (f : A → ℕ) where
  -- the sum after a change of one element
  pub sum_by_set : (xs : List A) (i : ℕ) (v w : A) → get_elem? xs i ≡ some v → sum_by f (set xs i w) + f v ≡ sum_by f xs + f w
  sum_by_set [] i v w at = absurd (some-ne-none v (sym at))
  sum_by_set (x ∷ xs) zero v w at =
      let is : f x ≡ f v = ap f (some-injective x v at) in
      omega (arith, sum_by-cons f x xs, sum_by-cons f w xs)
  sum_by_set (x ∷ xs) (suc i) v w at = omega (arith, sum_by-cons f x xs, sum_by-cons f x (set xs i w), sum_by_set xs i v w at)

  -- one element is at most the sum
  pub one_le : (xs : List A) (i : ℕ) (v : A) → get_elem? xs i ≡ some v → f v ≤ sum_by f xs
  one_le [] i v at = absurd (some-ne-none v (sym at))
  one_le (x ∷ xs) zero v at = let is : f x ≡ f v = ap f (some-injective x v at) in omega (arith, sum_by-cons f x xs)
  one_le (x ∷ xs) (suc i) v at = omega (arith, sum_by-cons f x xs, one_le xs i v at)

  -- two elements are together at most the sum
  pub two_le : (z : A) → f z ≡ 0 → (xs : List A) (i j : ℕ) (v w : A) → j ≢ i → get_elem? xs i ≡ some v → get_elem? xs j ≡ some w → f v + f w ≤ sum_by f xs
  two_le z none xs i j v w apart at at' = omega (arith, sum_by_set xs i v z at, one_le (set xs i z) j w (set_else xs i j z apart ∙ at'), none)

  -- where f is at most g, so are the sums
  pub sum_by_le : (g : A → ℕ) → ((x : A) → f x ≤ g x) → (xs : List A) → sum_by f xs ≤ sum_by g xs
  sum_by_le g le [] = omega arith
  sum_by_le g le (x ∷ xs) = omega (arith, sum_by-cons f x xs, sum_by-cons g x xs, sum_by_le g le xs, le x)

-- where f is at most g, and g has its whole sum in one element, so has f
pub sum_by_only : {A : Type 0} (f g : A → ℕ) (z : A) → f z ≡ 0 → g z ≡ 0 → ((x : A) → f x ≤ g x) → (xs : List A) (i : ℕ) (v : A) → get_elem? xs i ≡ some v → sum_by f xs + g v ≤ sum_by g xs + f v
sum_by_only f g z none none' le xs i v at = omega (arith, sum_by_set f xs i v z at, sum_by_set g xs i v z at, sum_by_le f g le (set xs i z), none, none')

-- no element counts where the count is 0
pub none_counts : {A : Type 0} (f : A → ℕ) (n : ℕ) → (xs : List A) → sum_by (λ x. one_if (eqb (f x) n)) xs ≤ 0 → All (λ x. f x ≢ n) xs
none_counts f n [] le = All-nil _
none_counts {A} f n (x ∷ xs) le =
    let P : A → Type 0 = λ y. f y ≢ n in
    let cons = sum_by-cons (λ (y : A). one_if (eqb (f y) n)) x xs in
    All-cons P x xs
    (λ is. let one : one_if (eqb (f x) n) ≡ 1 = ap one_if (eq-eqb (f x) n is) in absurd (omega arith))
    (none_counts f n xs (omega arith))

pub one_at_most : (b : Bool) → one_if b ≤ 1
one_at_most true = omega arith
one_at_most false = omega arith

-- a number that is at most 1 for each of n, and n in all, is 1 for each

abbrev pub upto : (ℕ → ℕ) → ℕ → ℕ
upto g zero = 0
upto g (suc n) = upto g n + g n

upto_le : (g : ℕ → ℕ) → ((m : ℕ) → g m ≤ 1) → (n : ℕ) → upto g n ≤ n
upto_le g most zero = omega arith
upto_le g most (suc n) = omega (arith, upto_le g most n, most n)

upto_full : (g : ℕ → ℕ) → ((m : ℕ) → g m ≤ 1) → (n : ℕ) → n ≤ upto g n → (m : ℕ) → m < n → g m ≡ 1
upto_full g most zero full m l = absurd (omega arith)
upto_full g most (suc n) full m l =
    let less = upto_le g most n in
    let last = most n in
    ⊎_elim
    (λ (e : m ≡ n). let same = ap g e in omega arith)
    (λ (e : m ≢ n). upto_full g most n (omega arith) m (omega arith))
    (cases_eq m n)

upto_same : (g h : ℕ → ℕ) → ((m : ℕ) → g m ≡ h m) → (n : ℕ) → upto g n ≡ upto h n
upto_same g h same zero = refl
upto_same g h same (suc n) = omega (arith, upto_same g h same n, same n)

upto_add : (g h : ℕ → ℕ) (n : ℕ) → upto (λ m. g m + h m) n ≡ upto g n + upto h n
upto_add g h zero = refl
upto_add g h (suc n) = omega (arith, upto_add g h n)

upto_one : (a n : ℕ) → a < n → 1 ≤ upto (λ m. one_if (eqb a m)) n
upto_one a zero l = absurd (omega arith)
upto_one a (suc n) l =
    ⊎_elim
    (λ (e : a ≡ n). let one : one_if (eqb a n) ≡ 1 = ap one_if (eq-eqb a n e) in omega arith)
    (λ (e : a ≢ n). let some = upto_one a n (omega arith) in omega arith)
    (cases_eq a n)

module _ {A : Type 0} (f : A → ℕ) where
  abbrev count : ℕ → List A → ℕ
  count m xs = sum_by (λ x. one_if (eqb (f x) m)) xs

  counted_upto : (n : ℕ) (xs : List A) → All (λ x. f x < n) xs → length xs ≤ upto (λ m. count m xs) n
  counted_upto n [] all = omega arith
  counted_upto n (x ∷ xs) all =
      let one = upto_one (f x) n (All-head (λ (y : A). f y < n) x xs all) in
      let rest = counted_upto n xs (All-tail (λ (y : A). f y < n) x xs all) in
      let sum = upto_add (λ m. one_if (eqb (f x) m)) (λ m. count m xs) n in
      let same = upto_same (λ m. count m (x ∷ xs)) (λ m. one_if (eqb (f x) m) + count m xs) (λ m. sum_by-cons (λ (y : A). one_if (eqb (f y) m)) x xs) n in
      omega arith

  -- of n elements with numbers below n, no two with the same, each number below n has one
  pub each_once : (n : ℕ) (xs : List A) → length xs ≡ n → All (λ x. f x < n) xs → ((m : ℕ) → sum_by (λ x. one_if (eqb (f x) m)) xs ≤ 1) → (m : ℕ) → m < n → sum_by (λ x. one_if (eqb (f x) m)) xs ≡ 1
  each_once n xs long low most m l = let full = counted_upto n xs low in upto_full (λ k. count k xs) most n (omega arith) m l
