-- The watchers of a gauge, when one is taken out in a walk.
use Rattle.std.proofs.Common.{◌≡◌, ℕ, ◌<◌, ◌≤◌, List, [], ◌∷◌, Option, Some, None, Bool, true, false, AllPairs, cond, filter, length, get_or, zero, suc, sym, ap, ◌∙◌, refl, subst, arith}
use Rattle.std.specs.List.{slice_get}
use Rattle.std.specs.Option.{IfSome}
use Rattle.std.proofs.lemmas.Option.{slice_get_within, get_or_from_slice_get}
use Rattle.watch_lists.specs.declared.watch.Watch.{Watch}

module _ (p : Watch → Bool) where
  -- where the first watchers pass a test, they stay in their places
  pub first_stay : (row : List Watch) (at k : ℕ) → ((i : ℕ) (w : Watch) → i < at → slice_get row i ≡ Some w → p w ≡ true) → k < at → slice_get (filter p row) k ≡ slice_get row k
  first_stay [] at k passes l = refl
  first_stay (x ∷ row) zero k passes l = absurd (omega arith)
  first_stay (x ∷ row) (suc at) zero passes l =
      subst (λ (b : Bool). slice_get (cond b (x ∷ filter p row) (filter p row)) zero ≡ Some x) (sym (passes zero x (omega arith) refl)) refl
  first_stay (x ∷ row) (suc at) (suc k) passes l =
      subst (λ (b : Bool). slice_get (cond b (x ∷ filter p row) (filter p row)) (suc k) ≡ slice_get row k) (sym (passes zero x (omega arith) refl))
      (first_stay row at k (λ i w m is. passes (suc i) w (omega arith) is) (omega arith))

  filter_le : (row : List Watch) → length (filter p row) ≤ length row
  filter_le [] = omega arith
  filter_le (x ∷ row) =
      let rest = filter_le row in
      elim (p x) as (λ b. length (cond b (x ∷ filter p row) (filter p row)) ≤ length (x ∷ row)) [ true ↦ omega arith | false ↦ omega arith ]

  -- where a watcher fails it, fewer are left
  pub fewer_left : (row : List Watch) (at : ℕ) (w : Watch) → slice_get row at ≡ Some w → p w ≡ false → length (filter p row) < length row
  fewer_left [] at w is fails = absurd cc
  fewer_left (x ∷ row) zero w is fails =
      let same : x ≡ w = cc in
      let rest = filter_le row in
      subst (λ (b : Bool). length (cond b (x ∷ filter p row) (filter p row)) < length (x ∷ row)) (sym (ap p same ∙ fails)) (omega arith)
  fewer_left (x ∷ row) (suc at) w is fails =
      let rest = fewer_left row at w is fails in
      elim (p x) as (λ b. length (cond b (x ∷ filter p row) (filter p row)) < length (x ∷ row)) [ true ↦ omega arith | false ↦ omega arith ]

-- in rising order, no id is lower than its place
low_place : (row : List Watch) → AllPairs (λ (a b : Watch). a.id < b.id) row → (at : ℕ) (d : Watch) → at < length row → at ≤ (get_or row at d).id
low_place row rising zero d l = omega arith
low_place row rising (suc at) d l =
    let before = low_place row rising at d (omega arith) in
    let next = rising at (suc at) d (omega arith) l in
    omega arith

pub low_id : (row : List Watch) → AllPairs (λ (a b : Watch). a.id < b.id) row → (at : ℕ) (w : Watch) → slice_get row at ≡ Some w → at ≤ w.id
low_id row rising at w is =
    let l = low_place row rising at w (slice_get_within row at w is) in
    let e : (get_or row at w).id ≡ w.id = ap (λ (v : Watch). v.id) (get_or_from_slice_get row at w w is) in
    omega arith

pub low_ids : (o : Option Watch) (row : List Watch) (at : ℕ) → o ≡ slice_get row at → AllPairs (λ (a b : Watch). a.id < b.id) row → IfSome o (λ w. at ≤ w.id)
low_ids None row at is rising = tt
low_ids (Some w) row at is rising = low_id row rising at w (sym is)
