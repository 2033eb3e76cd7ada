-- Sums and joined lists over the views of all passes, where one view or two change.
use Rattle.std.proofs.Common.{◌≡◌, ◌≢◌, ℕ, zero, suc, ◌+◌, ◌≤◌, List, [], ◌∷◌, ◌++◌, set, sym, refl, ap, ◌∙◌, subst, append_assoc, append-nil, arith}
use Rattle.std.specs.Prelude.{All, IsPermutation, flat_map, sum_by}
use Rattle.std.proofs.lemmas.List.{set_comm}
use Rattle.std.proofs.lemmas.List.Elements.{All-head, All-tail}
use Rattle.std.proofs.lemmas.List.Sorted.{IsPermutation-append_comm, IsPermutation-append_right, IsPermutation-trans}
use Rattle.std.proofs.lemmas.List.Sums.{sum_by-cons}
use mathlib.Core.Option.{some, some-injective, some-ne-none}
use lib.ListN.{get_elem?}
use Rattle.crossbeam_queue.proofs.Lists.{set_else}

module _ {A : Type 0} (p : A → ℕ) where
  -- the sum after a change of one element
  pub sum_set : (xs : List A) (i : ℕ) (v w : A) → get_elem? xs i ≡ some v → sum_by p (set xs i w) + p v ≡ sum_by p xs + p w
  sum_set [] i v w at = absurd (some-ne-none v (sym at))
  sum_set (x ∷ xs) zero v w at = let is : p x ≡ p v = ap p (some-injective x v at) in omega (arith, sum_by-cons p x xs, sum_by-cons p w xs)
  sum_set (x ∷ xs) (suc i) v w at = omega (arith, sum_by-cons p x xs, sum_by-cons p x (set xs i w), sum_set xs i v w at)

  -- one element is at most the sum
  pub one_le : (xs : List A) (i : ℕ) (v : A) → get_elem? xs i ≡ some v → p v ≤ sum_by p xs
  one_le [] i v at = absurd (some-ne-none v (sym at))
  one_le (x ∷ xs) zero v at = let is : p x ≡ p v = ap p (some-injective x v at) in omega (arith, sum_by-cons p x xs)
  one_le (x ∷ xs) (suc i) v at = omega (arith, sum_by-cons p x xs, one_le xs i v at)

shift : {B : Type 0} (a b c : List B) → IsPermutation ((a ++ b) ++ c) ((a ++ c) ++ b)
shift {B} a b c =
    subst (λ (l : List B). IsPermutation l ((a ++ c) ++ b)) (sym (append_assoc a b c))
    (subst (λ (l : List B). IsPermutation (a ++ (b ++ c)) l) (sym (append_assoc a c b))
    (IsPermutation-append_right a (b ++ c) (c ++ b) (IsPermutation-append_comm b c)))

module _ {A B : Type 0} (f : A → List B) where
  -- one element has more
  pub grows : (xs : List A) (i : ℕ) (v w : A) (more : List B) → get_elem? xs i ≡ some v → f w ≡ f v ++ more → IsPermutation (flat_map f xs ++ more) (flat_map f (set xs i w))
  grows [] i v w more at is = absurd (some-ne-none v (sym at))
  grows (x ∷ xs) zero v w more at is =
      let rest = flat_map f xs in
      let same : f x ≡ f v = ap f (some-injective x v at) in
      subst (λ (l : List B). IsPermutation ((f x ++ rest) ++ more) (l ++ rest)) (sym (is ∙ ap (λ (l : List B). l ++ more) (sym same))) (shift (f x) rest more)
  grows (x ∷ xs) (suc i) v w more at is =
      let rest = flat_map f xs in
      let new = flat_map f (set xs i w) in
      subst (λ (l : List B). IsPermutation l (f x ++ new)) (sym (append_assoc (f x) rest more)) (IsPermutation-append_right (f x) (rest ++ more) new (grows xs i v w more at is))

  -- one element has less
  pub falls : (xs : List A) (i : ℕ) (v w : A) (less : List B) → get_elem? xs i ≡ some v → f v ≡ f w ++ less → IsPermutation (flat_map f xs) (flat_map f (set xs i w) ++ less)
  falls [] i v w less at is = absurd (some-ne-none v (sym at))
  falls (x ∷ xs) zero v w less at is =
      let rest = flat_map f xs in
      let same : f x ≡ f v = ap f (some-injective x v at) in
      subst (λ (l : List B). IsPermutation (l ++ rest) ((f w ++ rest) ++ less)) (sym (same ∙ is)) (shift (f w) less rest)
  falls (x ∷ xs) (suc i) v w less at is =
      let rest = flat_map f xs in
      let new = flat_map f (set xs i w) in
      subst (λ (l : List B). IsPermutation (f x ++ rest) l) (sym (append_assoc (f x) new less)) (IsPermutation-append_right (f x) rest (new ++ less) (falls xs i v w less at is))

  -- one element has the same
  pub keeps : (xs : List A) (i : ℕ) (v w : A) → get_elem? xs i ≡ some v → f w ≡ f v → flat_map f (set xs i w) ≡ flat_map f xs
  keeps [] i v w at is = refl
  keeps (x ∷ xs) zero v w at is = ap (λ (l : List B). l ++ flat_map f xs) (is ∙ sym (ap f (some-injective x v at)))
  keeps (x ∷ xs) (suc i) v w at is = ap (λ (l : List B). f x ++ l) (keeps xs i v w at is)

  -- what one element has goes to another
  pub joins : (xs : List A) (i j : ℕ) (v u both spent : A) → get_elem? xs i ≡ some v → j ≢ i → get_elem? xs j ≡ some u → f both ≡ f v ++ f u → f spent ≡ []
      → IsPermutation (flat_map f xs) (flat_map f (set (set xs i both) j spent))
  joins xs i j v u both spent at apart at' is none =
      let left = set xs j spent in
      let still : get_elem? left i ≡ some v = set_else xs j i spent (λ e. apart (sym e)) ∙ at in
      let gone = falls xs j u spent (f u) at' (sym (ap (λ (l : List B). l ++ f u) none)) in
      let come = grows left i v both (f u) still is in
      subst (λ (l : List A). IsPermutation (flat_map f xs) (flat_map f l)) (set_comm xs j i spent both apart)
      (IsPermutation-trans (flat_map f xs) (flat_map f left ++ f u) (flat_map f (set left i both)) gone come)

  module _ (p : A → ℕ) where
    -- where the elements that count nothing have nothing, and none counts
    none : (xs : List A) → sum_by p xs ≡ 0 → All (λ x. p x ≡ 0 → f x ≡ []) xs → flat_map f xs ≡ []
    none [] counts idle = refl
    none (x ∷ xs) counts idle =
        let cons = sum_by-cons p x xs in
        let P : A → Type 0 = λ y. p y ≡ 0 → f y ≡ [] in
        ap (λ (l : List B). l ++ flat_map f xs) (All-head P x xs idle (omega arith)) ∙ none xs (omega arith) (All-tail P x xs idle)

    -- where one element counts all, it has all
    pub only : (xs : List A) (i : ℕ) (v : A) → get_elem? xs i ≡ some v → sum_by p xs ≡ p v → All (λ x. p x ≡ 0 → f x ≡ []) xs → flat_map f xs ≡ f v
    only [] i v at counts idle = absurd (some-ne-none v (sym at))
    only (x ∷ xs) zero v at counts idle =
        let P : A → Type 0 = λ y. p y ≡ 0 → f y ≡ [] in
        let cons = sum_by-cons p x xs in
        let is = some-injective x v at in
        let same : p x ≡ p v = ap p is in
        ap (λ (l : List B). f x ++ l) (none xs (omega arith) (All-tail P x xs idle)) ∙ append-nil (f x) ∙ ap f is
    only (x ∷ xs) (suc i) v at counts idle =
        let P : A → Type 0 = λ y. p y ≡ 0 → f y ≡ [] in
        let cons = sum_by-cons p x xs in
        let least = one_le p xs i v at in
        ap (λ (l : List B). l ++ flat_map f xs) (All-head P x xs idle (omega arith)) ∙ only xs i v at (omega arith) (All-tail P x xs idle)
