-- As many items as places, each of which has a place, and no place two of them: then each place has one.
use Rattle.std.proofs.Common.{◌≡◌, ◌≢◌, ℕ, zero, suc, ◌+◌, ◌<◌, ◌≤◌, List, [], ◌∷◌, length, eqb, refl, sym, ap, subst, ⊎_elim, arith}
use Rattle.std.specs.Prelude.{All, count_by, slice_index_or}
use Rattle.std.proofs.lemmas.Bool.{cases_eq, eq-eqb}
use Rattle.std.proofs.lemmas.List.Sums.{sum_by-cons}
use Rattle.std.proofs.lemmas.List.Elements.{All-head, All-tail}
use Rattle.room_core.specs.Counts.{sum_below}
use Rattle.room_table.specs.Shown.{one_if}

-- the sum of a sum of two
pub sum_both : (f g both : ℕ → ℕ) (n : ℕ) → ((i : ℕ) → both i ≡ f i + g i) → sum_below both n ≡ sum_below f n + sum_below g n
unfolding sum_below
sum_both f g both zero is = refl
sum_both f g both (suc n) is = omega (arith, sum_both f g both n is, is n)

-- one term is at most the sum
pub term_le : (f : ℕ → ℕ) (n i : ℕ) → i < n → f i ≤ sum_below f n
unfolding sum_below
term_le f zero i below = absurd (omega arith)
term_le f (suc n) i below = ⊎_elim
    (λ (e : i ≡ n). let same : f i ≡ f n = ap f e in omega arith)
    (λ (m : i ≢ n). omega (arith, term_le f n i (omega arith)))
    (cases_eq i n)

-- n terms of which none is above 1
few_terms : (f : ℕ → ℕ) (n : ℕ) → ((i : ℕ) → f i ≤ 1) → sum_below f n ≤ n
unfolding sum_below
few_terms f zero few = omega arith
few_terms f (suc n) few = omega (arith, few_terms f n few, few n)

-- and that come to n
all_ones : (f : ℕ → ℕ) (n : ℕ) → ((i : ℕ) → f i ≤ 1) → n ≤ sum_below f n → (i : ℕ) → i < n → f i ≡ 1
unfolding sum_below
all_ones f zero few most i below = absurd (omega arith)
all_ones f (suc n) few most i below = ⊎_elim
    (λ (e : i ≡ n). let same : f i ≡ f n = ap f e in omega (arith, few_terms f n few, few n))
    (λ (m : i ≢ n). all_ones f n few (omega (arith, few n)) i (omega arith))
    (cases_eq i n)

-- the number is that of a place below n
pub record IsPlaced (at : ℕ → ℕ) (n number : ℕ) : Type 0 where
  pub place : ℕ
  pub below : place < n
  pub is : at place ≡ number

module _ {A : Type 0} (key : A → ℕ) (at : ℕ → ℕ) (n : ℕ) where
  -- how many items have the number of a place
  abbrev items_at : List A → ℕ → ℕ
  items_at xs i = count_by (λ x. eqb (key x) (at i)) xs

  all_counted : (xs : List A) → All (λ x. IsPlaced at n (key x)) xs → length xs ≤ sum_below (items_at xs) n
  all_counted [] all = omega arith
  all_counted (x ∷ xs) all =
      let P : A → Type 0 = λ y. IsPlaced at n (key y) in
      let here : IsPlaced at n (key x) = All-head P x xs all in
      let f : ℕ → ℕ = λ i. one_if (eqb (key x) (at i)) in
      let one : f here.place ≡ 1 = ap one_if (eq-eqb (key x) (at here.place) (sym here.is)) in
      omega (
        arith,
        sum_both f (items_at xs) (items_at (x ∷ xs)) n (λ i. sum_by-cons (λ y. one_if (eqb (key y) (at i))) x xs),
        term_le f n here.place here.below,
        one,
        all_counted xs (All-tail P x xs all),
      )

  pub each_once : (xs : List A) → length xs ≡ n → All (λ x. IsPlaced at n (key x)) xs → ((number : ℕ) → count_by (λ x. eqb (key x) number) xs ≤ 1)
      → (number : ℕ) → IsPlaced at n number → count_by (λ x. eqb (key x) number) xs ≡ 1
  each_once xs size placed few number here =
      let all : n ≤ sum_below (items_at xs) n = omega (arith, all_counted xs placed) in
      subst (λ m. count_by (λ x. eqb (key x) m) xs ≡ 1) here.is (all_ones (items_at xs) n (λ i. few (at i)) all here.place here.below)

pub all_below : {A : Type 0} (key : A → ℕ) (n : ℕ) (xs : List A) → All (λ x. key x < n) xs → length xs ≤ sum_below (λ i. count_by (λ x. eqb (key x) i) xs) n
all_below key n xs below = all_counted key (λ i. i) n xs (λ k d l. record { place = key (slice_index_or xs k d); below = below k d l; is = refl })
