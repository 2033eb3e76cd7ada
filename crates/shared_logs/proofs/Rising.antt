-- Numbers that rise, by their members.
use Rattle.std.proofs.Common.{⊎_elim, ◌≡◌, ◌⊎◌, ℕ, zero, suc, ◌+◌, ◌<◌, ◌≤◌, List, [], ◌∷◌, fold, get_or, inl, inr, length, max, refl, subst, sym, arith}
use Rattle.std.specs.Prelude.{Any, Contains, slice_index, ⊤}
use Rattle.std.specs.List.{flat_map}
use Rattle.std.specs.List.Sorted.{IsStrictlyIncreasing}
use Rattle.std.proofs.lemmas.List.Elements.{Contains-append_cases, Contains-append_left, Contains-append_right}

-- each is above the one before it, and the first above n
abbrev pub Rises : ℕ → List ℕ → Type 0
Rises n [] = ⊤
Rises n (x ∷ xs) = (n < x) × Rises x xs

next : (k : ℕ) → suc k + 1 ≡ suc (k + 1)
next k = omega arith

pub rises_from : (n : ℕ) (xs : List ℕ) → IsStrictlyIncreasing (n ∷ xs) → Rises n xs
rises_from n [] up = tt
rises_from n (x ∷ xs) up = (
  up 0 (omega arith),
  rises_from x xs (λ k lt. subst (λ i. slice_index (x ∷ xs) k < slice_index (n ∷ x ∷ xs) i) (next k) (up (suc k) (omega (arith, lt)))),
)

pub rises_on : (n : ℕ) (xs : List ℕ) → Rises n xs → IsStrictlyIncreasing (n ∷ xs)
rises_on n [] rises k lt = absurd (omega (arith, lt))
rises_on n (x ∷ xs) rises zero lt = rises.0
rises_on n (x ∷ xs) rises (suc k) lt = subst (λ i. slice_index (x ∷ xs) k < slice_index (n ∷ x ∷ xs) i) (sym (next k)) (rises_on x xs rises.1 k (omega (arith, lt)))

pub rises_lower : (n m : ℕ) (xs : List ℕ) → n ≤ m → Rises m xs → Rises n xs
rises_lower n m [] le rises = tt
rises_lower n m (x ∷ xs) le rises = let first = rises.0 in (omega (arith, le, first), rises.1)

-- ---- members

-- `Contains`, by recursion
abbrev pub Has : List ℕ → ℕ → Type 0
Has [] t = ⊥
Has (x ∷ xs) t = (x ≡ t) ⊎ Has xs t

has_at : (xs : List ℕ) (t k : ℕ) → k < length xs → get_or xs k t ≡ t → Has xs t
has_at [] t k less is = absurd (omega (arith, less))
has_at (x ∷ xs) t zero less is = inl is
has_at (x ∷ xs) t (suc k) less is = inr (has_at xs t k (omega (arith, less)) is)

pub has_from : (xs : List ℕ) (t : ℕ) → Contains xs t → Has xs t
has_from xs t c = has_at xs t c.0 c.1 c.2

pub has_on : (xs : List ℕ) (t : ℕ) → Has xs t → Contains xs t
has_on [] t has = absurd has
has_on (x ∷ xs) t has =
    ⊎_elim
    (λ (is : x ≡ t). (0, omega arith, is))
    (λ (rest : Has xs t).
    let c = has_on xs t rest in
    let less = c.1 in
    (suc c.0, omega (arith, less), c.2))
    has

has_above : (n : ℕ) (xs : List ℕ) (t : ℕ) → Rises n xs → Has xs t → n < t
has_above n [] t rises has = absurd has
has_above n (x ∷ xs) t rises has =
    let first = rises.0 in
    ⊎_elim (λ (is : x ≡ t). omega (arith, first, is)) (λ (rest : Has xs t). let above = has_above x xs t rises.1 rest in omega (arith, first, above)) has

has_least : (x : ℕ) (xs : List ℕ) (t : ℕ) → Rises x xs → Has (x ∷ xs) t → x ≤ t
has_least x xs t rises has =
    ⊎_elim (λ (is : x ≡ t). omega (arith, is)) (λ (rest : Has xs t). let above = has_above x xs t rises rest in omega (arith, above)) has

-- what is above the first is behind it
has_behind : (x : ℕ) (xs : List ℕ) (t : ℕ) → x < t → Has (x ∷ xs) t → Has xs t
has_behind x xs t less has = ⊎_elim (λ (is : x ≡ t). absurd (omega (arith, less, is))) (λ (rest : Has xs t). rest) has

-- numbers that rise are the same where their members are
pub same_rising : (n m : ℕ) (xs ys : List ℕ) → Rises n xs → Rises m ys → ((t : ℕ) → Has xs t → Has ys t) → ((t : ℕ) → Has ys t → Has xs t) → xs ≡ ys
same_rising n m [] [] up over on back = refl
same_rising n m [] (y ∷ ys) up over on back = absurd (back y (inl refl))
same_rising n m (x ∷ xs) [] up over on back = absurd (on x (inl refl))
same_rising n m (x ∷ xs) (y ∷ ys) up over on back =
    let a = has_least x xs y up.1 (back y (inl refl)) in
    let b = has_least y ys x over.1 (on x (inl refl)) in
    let same : x ≡ y = omega (arith, a, b) in
    let rest = same_rising x y xs ys up.1 over.1
    (λ t has. let above = has_above x xs t up.1 has in has_behind y ys t (omega (arith, above, same)) (on t (inr has)))
    (λ t has. let above = has_above y ys t over.1 has in has_behind x xs t (omega (arith, above, same)) (back t (inr has))) in
    λ j. same j ∷ rest j

-- ---- the greatest

fold_least : (n : ℕ) (xs : List ℕ) → n ≤ fold max n xs
fold_least n [] = omega arith
fold_least n (x ∷ xs) = omega (arith, fold_least (max n x) xs)

fold_has : (n : ℕ) (xs : List ℕ) (t : ℕ) → Has xs t → t ≤ fold max n xs
fold_has n [] t has = absurd has
fold_has n (x ∷ xs) t has =
    let least = fold_least (max n x) xs in
    ⊎_elim (λ (is : x ≡ t). omega (arith, is, least)) (λ (rest : Has xs t). fold_has (max n x) xs t rest) has

fold_bound : (n bound : ℕ) (xs : List ℕ) → n ≤ bound → ((t : ℕ) → Has xs t → t ≤ bound) → fold max n xs ≤ bound
fold_bound n bound [] le each = le
fold_bound n bound (x ∷ xs) le each =
    let here = each x (inl refl) in
    fold_bound (max n x) bound xs (omega (arith, le, here)) (λ t has. each t (inr has))

pub some_greatest : (xs ys : List ℕ) → ((t : ℕ) → Has xs t → Has ys t) → fold max 0 xs ≤ fold max 0 ys
some_greatest xs ys on = fold_bound 0 (fold max 0 ys) xs (omega arith) (λ t has. fold_has 0 ys t (on t has))

-- ---- the members of all lists

module _ {A : Type 0} (f : A → List ℕ) where
  pub flat_any : (xs : List A) (t : ℕ) → Contains (flat_map f xs) t → Any (λ x. Contains (f x) t) xs
  flat_any [] t c = let less = c.1 in absurd (omega (arith, less))
  flat_any (x ∷ xs) t c =
      ⊎_elim
      (λ (here : Contains (f x) t). (0, x, omega arith, refl, here))
      (λ (rest : Contains (flat_map f xs) t).
      let a = flat_any xs t rest in
      let less = a.2 in
      (suc a.0, a.1, omega (arith, less), a.3, a.4))
      (Contains-append_cases (f x) (flat_map f xs) t c)

  flat_at : (xs : List A) (t k : ℕ) (x : A) → k < length xs → get_or xs k x ≡ x → Contains (f x) t → Contains (flat_map f xs) t
  flat_at [] t k x less is c = absurd (omega (arith, less))
  flat_at (y ∷ xs) t zero x less is c = Contains-append_left (f y) (flat_map f xs) t (subst (λ z. Contains (f z) t) (sym is) c)
  flat_at (y ∷ xs) t (suc k) x less is c = Contains-append_right (f y) (flat_map f xs) t (flat_at xs t k x (omega (arith, less)) is c)

  pub any_flat : (xs : List A) (t : ℕ) → Any (λ x. Contains (f x) t) xs → Contains (flat_map f xs) t
  any_flat xs t a = flat_at xs t a.0 a.1 a.2 a.3 a.4
