-- Numbers that rise, and the places in one history.
use Rattle.std.proofs.Common.{◌≡◌, ◌≢◌, ℕ, zero, suc, ◌+◌, ◌-◌, ◌≤◌, ◌<◌, true, false, eqb, List, [], ◌∷◌, ◌++◌, length, get_or, map, filter, refl, sym, ap, ◌∙◌, arith, inl, inr, length-append, eq-eqb}
use Rattle.std.proofs.Math.ListN.{get_or-append}
use Rattle.std.proofs.lemmas.List.{get_or-append-add, map-append}
use Rattle.std.proofs.lemmas.List.Elements.{filter-append}
use Rattle.std.proofs.lemmas.List.FromFn.{length-range_with_len, get_or-range_with_len}
use Rattle.std.proofs.lemmas.Bool.{cases_order, ne_eqb}
use Rattle.std.specs.List.{range_with_len}
use Rattle.std.specs.List.Sorted.{IsStrictlyIncreasing}
use Rattle.audit.specs.declared.account.Point.{Point}
use Rattle.audit.specs.IsLawful.{places_in}
pub use Rattle.audit.specs.broker.Sound.{AllBelow}

pub below_more : (n m : ℕ) (xs : List ℕ) → n ≤ m → AllBelow n xs → AllBelow m xs
below_more n m [] le a = tt
below_more n m (x ∷ xs) le a = (omega (arith, le, a.0), below_more n m xs le a.1)

pub below_get : (n : ℕ) (xs : List ℕ) (k : ℕ) → AllBelow n xs → k < length xs → get_or xs k 0 < n
below_get n [] k a lt = absurd (omega (arith, lt))
below_get n (x ∷ xs) zero a lt = a.0
below_get n (x ∷ xs) (suc k) a lt = below_get n xs k a.1 (omega (arith, lt))

-- numbers that rise, and others that count up from above them all
pub rises_on : (n m : ℕ) (xs : List ℕ) → IsStrictlyIncreasing xs → AllBelow n xs → IsStrictlyIncreasing (xs ++ range_with_len n m)
rises_on n m xs rises below k lt =
    let ys = range_with_len n m in
    let size : length (xs ++ ys) ≡ length xs + length ys = length-append xs ys in
    let many : length ys ≡ m = length-range_with_len n m in
    elim (cases_order (k + 1) (length xs)) [
      | inl at ↦
          let here : get_or (xs ++ ys) k 0 ≡ get_or xs k 0 = get_or-append xs ys 0 k (omega (arith, at)) in
          let next : get_or (xs ++ ys) (k + 1) 0 ≡ get_or ys 0 0 = ap (λ (i : ℕ). get_or (xs ++ ys) i 0) (omega (arith, at)) ∙ get_or-append-add xs ys 0 0 in
          let first : get_or ys 0 0 ≡ n + 0 = get_or-range_with_len n m 0 0 (omega (arith, lt, size, many, at)) in
          omega (arith, here, next, first, below_get n xs k below (omega (arith, at)))
      | inr other ↦ elim other [
        | inl within ↦
            let here : get_or (xs ++ ys) k 0 ≡ get_or xs k 0 = get_or-append xs ys 0 k (omega (arith, within)) in
            let next : get_or (xs ++ ys) (k + 1) 0 ≡ get_or xs (k + 1) 0 = get_or-append xs ys 0 (k + 1) within in
            omega (arith, here, next, rises k within)
        | inr past ↦
            let j = k - length xs in
            let here : get_or (xs ++ ys) k 0 ≡ get_or ys j 0 = ap (λ (i : ℕ). get_or (xs ++ ys) i 0) (omega (arith, past)) ∙ get_or-append-add xs ys j 0 in
            let next : get_or (xs ++ ys) (k + 1) 0 ≡ get_or ys (j + 1) 0 = ap (λ (i : ℕ). get_or (xs ++ ys) i 0) (omega (arith, past)) ∙ get_or-append-add xs ys (j + 1) 0 in
            let a : get_or ys j 0 ≡ n + j = get_or-range_with_len n m j 0 (omega (arith, lt, size, many, past)) in
            let b : get_or ys (j + 1) 0 ≡ n + (j + 1) = get_or-range_with_len n m (j + 1) 0 (omega (arith, lt, size, many, past)) in
            omega (arith, here, next, a, b)
      ]
    ]

pub places_here : (part place : ℕ) (points : List Point) → places_in part (record { part = part; place = place } ∷ points) ≡ place ∷ places_in part points
places_here part place points =
    let yes : eqb part part ≡ true = eq-eqb part part refl in rw yes refl

pub places_other : (p part place : ℕ) (points : List Point) → p ≢ part → places_in p (record { part = part; place = place } ∷ points) ≡ places_in p points
places_other p part place points ne =
    let no : eqb part p ≡ false = ne_eqb part p (λ e. ne (sym e)) in rw no refl

pub places_append : (p : ℕ) (xs ys : List Point) → places_in p (xs ++ ys) ≡ places_in p xs ++ places_in p ys
places_append p xs ys =
    ap (map (λ (point : Point). point.place)) (filter-append (λ (point : Point). eqb point.part p) xs ys)
    ∙ map-append (λ (point : Point). point.place) (filter (λ (point : Point). eqb point.part p) xs) (filter (λ (point : Point). eqb point.part p) ys)
