-- Sums over seats, and over their numbers.
use Rattle.std.proofs.Common.{⊎_elim, ◌≡◌, ◌≢◌, ◌∙◌, ℕ, zero, suc, ◌+◌, ◌<◌, ◌≤◌, Bool, List, [], ◌∷◌, cond, eqb, length, ap, refl, subst, sym, add-one, arith}
use Rattle.std.specs.Prelude.{All, count_by, sum_by}
use Rattle.std.proofs.lemmas.Bool.{cases_eq, eq-eqb, ne_eqb}
use Rattle.std.proofs.lemmas.List.Elements.{All-head, All-tail}
use Rattle.std.proofs.lemmas.List.Sums.{sum_by-cons}
use Rattle.room_core.specs.Counts.{sum_below}
use Rattle.room_core.proofs.Laws.{sum_same}
use Rattle.room_table.proofs.Laws.{sum_both}
use Rattle.purgatory.specs.Making.{AreFrom}

abbrev bit : Bool → ℕ
bit b = cond b 1 0

nothing : (f : ℕ → ℕ) (n : ℕ) → ((i : ℕ) → f i ≡ 0) → sum_below f n ≡ 0
unfolding sum_below
nothing f zero none = refl
nothing f (suc n) none = omega (arith, nothing f n none, none n)

-- no term above another's
pub terms_le : (f g : ℕ → ℕ) (n : ℕ) → ((i : ℕ) → i < n → f i ≤ g i) → sum_below f n ≤ sum_below g n
unfolding sum_below
terms_le f g zero le = omega arith
terms_le f g (suc n) le = omega (arith, terms_le f g n (λ i less. le i (omega (arith, less))), le n (omega arith))

-- the first terms, and the others
pub sum_split : (f : ℕ → ℕ) (m n : ℕ) → sum_below f (m + n) ≡ sum_below f m + sum_below (λ i. f (m + i)) n
unfolding sum_below
sum_split f m zero =
    let same : m + zero ≡ m = omega arith in
    let sum : sum_below f (m + zero) ≡ sum_below f m = ap (sum_below f) same in
    omega (arith, sum)
sum_split f m (suc n) =
    let next : m + suc n ≡ suc (m + n) = omega arith in
    let more : sum_below f (m + suc n) ≡ sum_below f (m + n) + f (m + n) = ap (sum_below f) next in
    omega (arith, more, sum_split f m n)

-- a sum of sums, by rows or by columns
pub sum_swap : (f : ℕ → ℕ → ℕ) (n m : ℕ) → sum_below (λ i. sum_below (f i) m) n ≡ sum_below (λ j. sum_below (λ i. f i j) n) m
unfolding sum_below
sum_swap f zero m = sym (nothing (λ j. 0) m (λ j. refl))
sum_swap f (suc n) m =
    let both : sum_below (λ j. sum_below (λ i. f i j) n + f n j) m ≡ sum_below (λ j. sum_below (λ i. f i j) n) m + sum_below (f n) m =
    sum_both (λ j. sum_below (λ i. f i j) n) (f n) (λ j. sum_below (λ i. f i j) n + f n j) m (λ j. refl) in
    omega (arith, both, sum_swap f n m)

-- items by the numbers from the first one on
pub sum_from : {A : Type 0} (f : ℕ → ℕ) (g : A → ℕ) (first : ℕ) (xs : List A) → AreFrom (λ k x. g x ≡ f k) first xs → sum_below f first + sum_by g xs ≡ sum_below f (first + length xs)
unfolding sum_below
sum_from f g first [] h =
    let same : first + 0 ≡ first = omega arith in
    let sum : sum_below f (first + 0) ≡ sum_below f first = ap (sum_below f) same in
    omega (arith, sum)
sum_from f g first (x ∷ xs) h =
    let next : sum_below f (first + 1) ≡ sum_below f first + f first = ap (sum_below f) (add-one first) in
    let rest = sum_from f g (first + 1) xs h.1 in
    let last : sum_below f (first + 1 + length xs) ≡ sum_below f (first + length (x ∷ xs)) = ap (sum_below f) (omega arith) in
    let here = h.0 in
    omega (arith, sum_by-cons g x xs, next, rest, last, here)

-- terms that are another's
no_term : (number n : ℕ) (h : ℕ → ℕ) → n ≤ number → sum_below (λ i. cond (eqb number i) (h i) 0) n ≡ 0
unfolding sum_below
no_term number zero h past = refl
no_term number (suc n) h past =
    let before = no_term number n h (omega (arith, past)) in
    let is : cond (eqb number n) (h n) 0 ≡ 0 = ap (λ b. cond b (h n) 0) (ne_eqb number n (λ e. omega (arith, e, past))) in
    omega (arith, before, is)

-- one term alone
one_term : (number n : ℕ) (h : ℕ → ℕ) → number < n → sum_below (λ i. cond (eqb number i) (h i) 0) n ≡ h number
unfolding sum_below
one_term number zero h less = absurd (omega (arith, less))
one_term number (suc n) h less =
    ⊎_elim
    (λ (here : number ≡ n).
    let none = no_term number n h (omega (arith, here)) in
    let is : cond (eqb number n) (h n) 0 ≡ h number = ap (λ b. cond b (h n) 0) (eq-eqb number n here) ∙ ap h (sym here) in
    omega (arith, none, is))
    (λ (other : number ≢ n).
    let before = one_term number n h (omega (arith, less, other)) in
    let is : cond (eqb number n) (h n) 0 ≡ 0 = ap (λ b. cond b (h n) 0) (ne_eqb number n other) in
    omega (arith, before, is))
    (cases_eq number n)

module _ {A : Type 0} (key : A → ℕ) (h : ℕ → ℕ) where
  -- what the items of one number come to
  abbrev weigh : ℕ → List A → ℕ
  weigh i xs = sum_by (λ x. cond (eqb (key x) i) (h i) 0) xs

  abbrev count : ℕ → List A → ℕ
  count i xs = count_by (λ x. eqb (key x) i) xs

  weigh_cons : (i : ℕ) (x : A) (xs : List A) → weigh i (x ∷ xs) ≡ cond (eqb (key x) i) (h i) 0 + weigh i xs
  weigh_cons i x xs = sum_by-cons (λ y. cond (eqb (key y) i) (h i) 0) x xs

  count_cons : (i : ℕ) (x : A) (xs : List A) → count i (x ∷ xs) ≡ bit (eqb (key x) i) + count i xs
  count_cons i x xs = sum_by-cons (λ y. bit (eqb (key y) i)) x xs

  weighs_none : (i : ℕ) (xs : List A) → count i xs ≡ 0 → weigh i xs ≡ 0
  weighs_none i [] none = refl
  weighs_none i (x ∷ xs) none =
      ⊎_elim
      (λ (here : key x ≡ i). let one : bit (eqb (key x) i) ≡ 1 = ap bit (eq-eqb (key x) i here) in absurd (omega (arith, none, count_cons i x xs, one)))
      (λ (other : key x ≢ i).
      let nil : cond (eqb (key x) i) (h i) 0 ≡ 0 = ap (λ b. cond b (h i) 0) (ne_eqb (key x) i other) in
      omega (arith, nil, weigh_cons i x xs, weighs_none i xs (omega (arith, none, count_cons i x xs))))
      (cases_eq (key x) i)

  weighs_one : (i : ℕ) (xs : List A) → count i xs ≡ 1 → weigh i xs ≡ h i
  weighs_one i [] one = absurd (omega (arith, one))
  weighs_one i (x ∷ xs) one =
      ⊎_elim
      (λ (here : key x ≡ i).
      let counted : bit (eqb (key x) i) ≡ 1 = ap bit (eq-eqb (key x) i here) in
      let is : cond (eqb (key x) i) (h i) 0 ≡ h i = ap (λ b. cond b (h i) 0) (eq-eqb (key x) i here) in
      omega (arith, is, weigh_cons i x xs, weighs_none i xs (omega (arith, one, count_cons i x xs, counted))))
      (λ (other : key x ≢ i).
      let counted : bit (eqb (key x) i) ≡ 0 = ap bit (ne_eqb (key x) i other) in
      let is : cond (eqb (key x) i) (h i) 0 ≡ 0 = ap (λ b. cond b (h i) 0) (ne_eqb (key x) i other) in
      omega (arith, is, weigh_cons i x xs, weighs_one i xs (omega (arith, one, count_cons i x xs, counted))))
      (cases_eq (key x) i)

  weighs_all : (n : ℕ) (xs : List A) (g : A → ℕ) → All (λ x. key x < n) xs → All (λ x. g x ≡ h (key x)) xs → sum_by g xs ≡ sum_below (λ i. weigh i xs) n
  weighs_all n [] g below is = sym (nothing (λ i. weigh i []) n (λ i. refl))
  weighs_all n (x ∷ xs) g below is =
      let P : A → Type 0 = λ y. key y < n in
      let Q : A → Type 0 = λ y. g y ≡ h (key y) in
      omega (
        arith,
        sum_by-cons g x xs,
        All-head Q x xs is,
        one_term (key x) n h (All-head P x xs below),
        sum_both (λ i. cond (eqb (key x) i) (h i) 0) (λ i. weigh i xs) (λ i. weigh i (x ∷ xs)) n (λ i. weigh_cons i x xs),
        weighs_all n xs g (All-tail P x xs below) (All-tail Q x xs is),
      )

  -- items of which each number below n has one
  pub sum_keyed : (n : ℕ) (xs : List A) (g : A → ℕ) → All (λ x. key x < n) xs → All (λ x. g x ≡ h (key x)) xs → ((i : ℕ) → i < n → count i xs ≡ 1) → sum_by g xs ≡ sum_below h n
  sum_keyed n xs g below is one = weighs_all n xs g below is ∙ sum_same (λ i. weigh i xs) h n (λ i less. weighs_one i xs (one i less))

-- what is so by the number of each item is so of a number that an item has
pub by_number : {A : Type 0} (P : ℕ → Type 0) (key : A → ℕ) (xs : List A) → All (λ x. P (key x)) xs → (i : ℕ) → 1 ≤ count_by (λ x. eqb (key x) i) xs → P i
by_number P key [] all i some = absurd (omega (arith, some))
by_number {A} P key (x ∷ xs) all i some =
    let Q : A → Type 0 = λ y. P (key y) in
    ⊎_elim
    (λ (here : key x ≡ i). subst P here (All-head Q x xs all))
    (λ (other : key x ≢ i).
    let none : bit (eqb (key x) i) ≡ 0 = ap bit (ne_eqb (key x) i other) in
    by_number P key xs (All-tail Q x xs all) i (omega (arith, some, none, sum_by-cons (λ y. bit (eqb (key y) i)) x xs)))
    (cases_eq (key x) i)

-- the item of a number that an item has, and what is so of it
pub of_number : {A : Type 0} (Q : A → Type 0) (key : A → ℕ) (xs : List A) → All Q xs → (i : ℕ) → 1 ≤ count_by (λ x. eqb (key x) i) xs → (x : A) × (key x ≡ i) × Q x
of_number Q key [] all i some = absurd (omega (arith, some))
of_number Q key (x ∷ xs) all i some =
    ⊎_elim
    (λ (here : key x ≡ i). (x, here, All-head Q x xs all))
    (λ (other : key x ≢ i).
    let none : bit (eqb (key x) i) ≡ 0 = ap bit (ne_eqb (key x) i other) in
    of_number Q key xs (All-tail Q x xs all) i (omega (arith, some, none, sum_by-cons (λ y. bit (eqb (key y) i)) x xs)))
    (cases_eq (key x) i)
