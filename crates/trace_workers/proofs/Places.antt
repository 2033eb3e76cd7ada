-- What holds of each pass in a list holds of all, and of their calls; and what is found by its number, as an item changes.
use Rattle.std.proofs.Common.{◌≡◌, ◌∙◌, ℕ, ◌+◌, ◌<◌, List, [], ◌∷◌, Some, drop, get_or, length, map, set, sym, ap, subst, arith, inl, inr}
use Rattle.std.specs.Prelude.{All, Any, slice_get}
use Rattle.std.specs.List.{AllByRecursion, flat_map}
use Rattle.std.proofs.lemmas.Bool.{cases_eq}
use Rattle.std.proofs.lemmas.List.{drop_all, drop_more, get_or-map, get_or-set_other, get_or_default, length-map, length-set}
use Rattle.std.proofs.lemmas.List.Quantifiers.{any-set}
use Rattle.std.proofs.lemmas.Option.{get_or_from_slice_get, same_Some, slice_get_within}
use Rattle.audit.specs.declared.account.Account.{Account}
use Rattle.audit.specs.declared.account.Call.{Call}
use Rattle.audit.specs.Histories.{all_calls, calls_in}
use Rattle.kbytes.proofs.Laws.{all_append}
use Rattle.audit.proofs.broker.Laws.{all_from_get}

pub all_of_map : {X Y : Type 0} (P : Y → Type 0) (f : X → Y) (xs : List X) → All P (map f xs) → All (λ x. P (f x)) xs
all_of_map P f xs all k d less = subst P (get_or-map f xs k d (f d) less) (all k (f d) (omega (arith, less, length-map xs f)))

-- the last item is what stands behind all others
pub drop_last : {X : Type 0} (xs : List X) (n : ℕ) (x : X) → length xs ≡ n + 1 → slice_get xs n ≡ Some x → drop n xs ≡ x ∷ []
drop_last xs n x size there =
    drop_more xs n x (omega (arith, size))
    ∙ ap (λ y. y ∷ drop (n + 1) xs) (get_or_from_slice_get xs n x x there)
    ∙ ap (λ ys. x ∷ ys) (drop_all (n + 1) xs (omega (arith, size)))

-- so many items, and one more
pub by_place : {X : Type 0} (P : X → Type 0) (xs : List X) (n : ℕ) (last : X) → length xs ≡ n + 1 → ((i : ℕ) → i < n → (x : X) × (slice_get xs i ≡ Some x) × P x) → slice_get xs n ≡ Some last → P last
    → AllByRecursion P xs
by_place P xs n last size each there ends = all_from_get P xs (λ i x at.
    let less : i < length xs = slice_get_within xs i x at in
    elim (cases_eq i n) [
      | inl same ↦
          let is : Some last ≡ Some x = sym there ∙ ap (slice_get xs) (sym same) ∙ at in
          subst P (same_Some last x is) ends
      | inr other ↦
          let h = each i (omega (arith, less, size, other)) in
          subst P (same_Some h.0 x (sym h.1 ∙ at)) h.2
    ])

all_flat : {X Y : Type 0} (P : Y → Type 0) (f : X → List Y) (xs : List X) → AllByRecursion (λ x. AllByRecursion P (f x)) xs → AllByRecursion P (flat_map f xs)
all_flat P f [] all = tt
all_flat P f (x ∷ xs) all = all_append P (f x) (flat_map f xs) all.0 (all_flat P f xs all.1)

pub of_calls : (P : Call → Type 0) (account : Account) → AllByRecursion (λ ts. AllByRecursion P (calls_in ts)) account.passes → AllByRecursion P (all_calls account)
of_calls P account all = all_flat P calls_in account.passes all

-- ---- an item of each number

-- another of the same number stands in the place of one
pub any_with : {X : Type 0} (f : X → ℕ) (xs : List X) (at : ℕ) (d x : X) (number : ℕ) → at < length xs → f x ≡ f (get_or xs at d) → Any (λ y. f y ≡ number) xs → Any (λ y. f y ≡ number) (set xs at x)
any_with f xs at d x number less same any =
    let k = any.0 in
    let y = any.1 in
    elim (cases_eq k at) [
      | inl here ↦
          any-set (λ z. f z ≡ number) xs at x less
          (same ∙ ap f (get_or_default xs at d y less ∙ ap (λ (i : ℕ). get_or xs i y) (sym here) ∙ any.3) ∙ any.4)
      | inr other ↦
          (k, y, subst (λ (n : ℕ). k < n) (sym (length-set xs at x)) any.2, get_or-set_other xs at k x y other ∙ any.3, any.4)
    ]

pub any_map : {X Y : Type 0} (f : X → Y) (P : Y → Type 0) (xs : List X) → Any (λ x. P (f x)) xs → Any P (map f xs)
any_map f P xs any = (any.0, f any.1, subst (λ (n : ℕ). any.0 < n) (sym (length-map xs f)) any.2, get_or-map f xs any.0 any.1 (f any.1) any.2 ∙ ap f any.3, any.4)
