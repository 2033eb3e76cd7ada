-- Lists of passes, as they are made and as they are taken apart from their end.
use Rattle.std.proofs.Common.{◌≡◌, ◌⊎◌, ℕ, zero, suc, ◌+◌, ◌-◌, ◌<◌, List, [], ◌∷◌, ◌++◌, length, sym, refl, ap, ◌∙◌, subst, inl, inr, ⊎_elim, arith, Bool, true, false}
use Rattle.std.specs.Prelude.{All, Option, Some, None, slice_get}
use Rattle.std.proofs.lemmas.List.Elements.{All-head, All-tail}
use Rattle.std.proofs.lemmas.Bool.{false≢true}
use mathlib.Core.List.{append_assoc}
use Rattle.atomic_table.specs.Seated.{TableId}
use Rattle.turn_lock.specs.declared.pass.TurnPass.{TurnPass}
use Rattle.turn_lock.specs.Passes.{fresh, fresh_from}
use Rattle.turn_lock.specs.Locks.{AreFresh}

module _ {A : Type 0} where
  -- what holds of all holds of the one in the middle
  pub All-middle : (P : A → Type 0) (before after : List A) (x : A) → All P (before ++ x ∷ after) → P x
  All-middle P [] after x all = All-head P x after all
  All-middle P (y ∷ ys) after x all = All-middle P ys after x (All-tail P y (ys ++ x ∷ after) all)

  -- the last of the first ones is the first of the last ones
  pub shifted : (all first before after : List A) (x : A) → all ≡ first ++ after → first ≡ before ++ x ∷ [] → all ≡ before ++ x ∷ after
  shifted all first before after x is last = is ∙ (ap (λ z. z ++ after) last ∙ append_assoc before (x ∷ []) after)

  abbrev value_or : A → Option A → A
  value_or x (Some y) = y
  value_or x None = x

  abbrev is_there : Option A → Bool
  is_there (Some y) = true
  is_there None = false

  -- what stands in a list with one more item
  in_longer : (xs : List A) (x : A) (k : ℕ) (y : A) → slice_get (xs ++ x ∷ []) k ≡ Some y → (slice_get xs k ≡ Some y) ⊎ ((k ≡ length xs) × (x ≡ y))
  in_longer [] x zero y at = inr (refl, ap (value_or x) at)
  in_longer [] x (suc k) y at = absurd (false≢true (ap is_there at))
  in_longer (z ∷ zs) x zero y at = inl at
  in_longer (z ∷ zs) x (suc k) y at = ⊎_elim (λ h. inl h) (λ (h : (k ≡ length zs) × (x ≡ y)). inr (ap suc h.0, h.1)) (in_longer zs x k y at)

  at_end : (xs : List A) (x : A) → slice_get (xs ++ x ∷ []) (length xs) ≡ Some x
  at_end [] x = refl
  at_end (z ∷ zs) x = at_end zs x

  at_longer : (xs : List A) (x : A) (k : ℕ) (y : A) → slice_get xs k ≡ Some y → slice_get (xs ++ x ∷ []) k ≡ Some y
  at_longer [] x k y at = absurd (false≢true (ap is_there at))
  at_longer (z ∷ zs) x zero y at = at
  at_longer (z ∷ zs) x (suc k) y at = at_longer zs x k y at

module _ (E : Type 0) (name : List ℕ) where
  -- the first of the passes that are left
  pub fresh_more : (first left : ℕ) → 0 < left → fresh_from {E = E} name first left ≡ fresh name first ∷ fresh_from name (first + 1) (left - 1)
  fresh_more first zero some = absurd (omega arith)
  fresh_more first (suc n) some = ap (λ m. fresh {E = E} name first ∷ fresh_from name (first + 1) m) (omega arith)

module _ {T E : Type 0} where
  pub fresh_push : (id : TableId) (name : List ℕ) (ps : List (TurnPass T E)) (p : TurnPass T E) → AreFresh id name ps → p.seat.table_id ≡ id → p.seat.me ≡ (fresh name (length ps) ∷ [], [])
      → AreFresh id name (ps ++ p ∷ [])
  fresh_push id name ps p fresh_ones is me k q at = ⊎_elim
      (λ (old : slice_get ps k ≡ Some q). fresh_ones k q old)
      (λ (new : (k ≡ length ps) × (p ≡ q)). subst (λ (z : ℕ × TurnPass T E). (z.1.seat.table_id ≡ id) × (z.1.seat.me ≡ (fresh name z.0 ∷ [], []))) (λ i. (sym new.0 i, new.1 i)) (is, me))
      (in_longer ps p k q at)

  -- the last of them is ready, and the others are as before
  pub fresh_popped : (id : TableId) (name : List ℕ) (ps qs : List (TurnPass T E)) (p : TurnPass T E) → AreFresh id name ps → ps ≡ qs ++ p ∷ []
      → AreFresh id name qs × (p.seat.table_id ≡ id) × (p.seat.me ≡ (fresh name (length qs) ∷ [], []))
  fresh_popped id name ps qs p ones is =
      let there : AreFresh id name (qs ++ p ∷ []) = subst (AreFresh id name) is ones in
      let last = there (length qs) p (at_end qs p) in
      ((λ k q at. there k q (at_longer qs p k q at)), last.0, last.1)
