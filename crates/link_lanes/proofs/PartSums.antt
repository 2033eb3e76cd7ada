-- Sums over lists, and over the parts that passes have of a history.
use Rattle.std.proofs.Common.{◌≡◌, ◌∙◌, ℕ, ◌+◌, ◌==◌, Bool, true, false, cond, List, [], ◌∷◌, refl, ap₂, sym, arith, count_by, true≢false, eqb-true, eq-eqb, All, Option, Some, None, filter, slice_index_or}
use Rattle.std.proofs.lemmas.List.Elements.{All-head, All-tail}
use Rattle.std.proofs.lemmas.Bool.Decides.{Decides-eqb, same_from_decides}
use Rattle.std.proofs.lemmas.List.Recursion.{is_sum_by}
use Rattle.std.specs.List.{AllByRecursion, cons_option}
use Rattle.link_lanes.specs.books.Times.{one_where, total}

module _ {A : Type 0} where
  -- sums of equal numbers are equal
  pub total_same : (f g : A → ℕ) (xs : List A) → All (λ x. f x ≡ g x) xs → total f xs ≡ total g xs
  total_same f g [] same = refl
  total_same f g (x ∷ xs) same = ap₂ (λ (n m : ℕ). n + m) (All-head (λ y. f y ≡ g y) x xs same) (total_same f g xs (All-tail (λ y. f y ≡ g y) x xs same))

  -- a sum of sums
  total_sum : (f g : A → ℕ) (xs : List A) → total (λ x. f x + g x) xs ≡ total f xs + total g xs
  total_sum f g [] = refl
  total_sum f g (x ∷ xs) = let rest = total_sum f g xs in omega (arith, rest)

  -- a sum of nothing
  pub total_zero : (xs : List A) → total (λ x. 0) xs ≡ 0
  total_zero [] = refl
  total_zero (x ∷ xs) = let rest = total_zero xs in omega (arith, rest)

  -- a count is a sum of ones
  pub count_is_total : (p : A → Bool) (xs : List A) → total (λ x. one_where (p x)) xs ≡ count_by p xs
  count_is_total p xs = is_sum_by (total (λ x. one_where (p x))) (λ x. cond (p x) 1 0) refl (λ x xs. refl) xs

  -- A measure counts a list item by item. So it counts what is read of entries, of which some say nothing.
  pub measure_read : (measure : List A → ℕ) → measure [] ≡ 0 → ((x : A) (xs : List A) → measure (x ∷ xs) ≡ measure (x ∷ []) + measure xs)
      → (o : Option A) (xs : List A) → measure (cons_option o xs) ≡ measure (cons_option o []) + measure xs
  measure_read measure none more None xs = omega (arith, none)
  measure_read measure none more (Some x) xs = more x xs

  -- and one item more, where a test keeps it
  measure_kept : (measure : List A → ℕ) → measure [] ≡ 0 → ((x : A) (xs : List A) → measure (x ∷ xs) ≡ measure (x ∷ []) + measure xs)
      → (b : Bool) (x : A) (xs : List A) → measure (cond b (x ∷ xs) xs) ≡ cond b (measure (x ∷ [])) 0 + measure xs
  measure_kept measure none more true x xs = more x xs
  measure_kept measure none more false x xs = omega arith

-- ---- a history in parts

-- the entries of the pass of this number
abbrev pub part_of : {E : Type 0} → (E → ℕ) → ℕ → List E → List E
part_of by n entries = filter (λ e. by e == n) entries

-- how many passes have this number
abbrev pub having : {P : Type 0} → (P → ℕ) → ℕ → List P → ℕ
having number n passes = total (λ pass. one_where (number pass == n)) passes

same_test : (a b : ℕ) → (a == b) ≡ (b == a)
same_test a b = same_from_decides (a == b) (b == a) (Decides-eqb a b) (λ is. sym (eqb-true b a is), λ is. eq-eqb b a (sym is))

-- one pass more, where no pass has the number
weight_none : (weight count sum : ℕ) (b c : Bool) → b ≡ c → one_where c + count ≡ 0 → (count ≡ 0 → sum ≡ 0) → cond b weight 0 + sum ≡ 0
weight_none weight count sum b true same none rest = absurd (omega (arith, none))
weight_none weight count sum true false same none rest = absurd (true≢false same)
weight_none weight count sum false false same none rest = let zero = rest (omega (arith, none)) in omega (arith, zero)

-- one pass more, where one has it
weight_one : (weight count sum : ℕ) (b c : Bool) → b ≡ c → one_where c + count ≡ 1 → (count ≡ 0 → sum ≡ 0) → (count ≡ 1 → sum ≡ weight) → cond b weight 0 + sum ≡ weight
weight_one weight count sum true true same once none one = let zero = none (omega (arith, once)) in omega (arith, zero)
weight_one weight count sum false true same once none one = absurd (true≢false (sym same))
weight_one weight count sum true false same once none one = absurd (true≢false same)
weight_one weight count sum false false same once none one = let rest = one (omega (arith, once)) in omega (arith, rest)

module _ {P : Type 0} (number : P → ℕ) where
  -- a weight that only the passes of one number have is nowhere, where no pass has the number
  weight_nowhere : (n weight : ℕ) (passes : List P) → having number n passes ≡ 0 → total (λ pass. cond (n == number pass) weight 0) passes ≡ 0
  weight_nowhere n weight [] none = refl
  weight_nowhere n weight (pass ∷ passes) none =
      weight_none weight (having number n passes) (total (λ pass. cond (n == number pass) weight 0) passes) (n == number pass) (number pass == n)
      (same_test n (number pass)) none (weight_nowhere n weight passes)

  -- and once, where one pass has it
  weight_once : (n weight : ℕ) (passes : List P) → having number n passes ≡ 1 → total (λ pass. cond (n == number pass) weight 0) passes ≡ weight
  weight_once n weight [] once = absurd (omega (arith, once))
  weight_once n weight (pass ∷ passes) once =
      weight_one weight (having number n passes) (total (λ pass. cond (n == number pass) weight 0) passes) (n == number pass) (number pass == n)
      (same_test n (number pass)) once (weight_nowhere n weight passes) (weight_once n weight passes)

  module _ {E : Type 0} (by : E → ℕ) (measure : List E → ℕ) (none : measure [] ≡ 0) (more : (e : E) (es : List E) → measure (e ∷ es) ≡ measure (e ∷ []) + measure es) where
    -- what is measured of the passes' parts adds up to what is measured of the whole, where each entry is of one pass
    pub parts_add_up : (passes : List P) (entries : List E) → AllByRecursion (λ e. having number (by e) passes ≡ 1) entries
        → total (λ pass. measure (part_of by (number pass) entries)) passes ≡ measure entries
    parts_add_up passes [] once = total_same (λ pass. measure []) (λ pass. 0) passes (λ k d within. none) ∙ total_zero passes ∙ sym none
    parts_add_up passes (e ∷ es) once =
        let here : P → ℕ = λ pass. cond (by e == number pass) (measure (e ∷ [])) 0 in
        let rest : P → ℕ = λ pass. measure (part_of by (number pass) es) in
        let each : (pass : P) → measure (part_of by (number pass) (e ∷ es)) ≡ here pass + rest pass = λ pass. measure_kept measure none more (by e == number pass) e (part_of by (number pass) es) in
        total_same (λ pass. measure (part_of by (number pass) (e ∷ es))) (λ pass. here pass + rest pass) passes (λ k d within. each (slice_index_or passes k d))
        ∙ total_sum here rest passes ∙ ap₂ (λ (n m : ℕ). n + m) (weight_once (by e) (measure (e ∷ [])) passes once.0) (parts_add_up passes es once.1) ∙ sym (more e es)
