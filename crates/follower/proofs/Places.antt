-- Places in one history that rise along points.
use Rattle.std.proofs.Common.{◌≡◌, ℕ, suc, ◌+◌, ◌≤◌, ◌<◌, true, eqb, List, [], ◌∷◌, ◌++◌, length, get_or, map, refl, sym, ap, subst, ◌∙◌, arith, eq-eqb}
use Rattle.std.proofs.lemmas.List.{map-append}
use Rattle.std.proofs.lemmas.List.Elements.{filter-append}
use Rattle.std.specs.Prelude.{filter}
use Rattle.std.specs.List.Sorted.{IsStrictlyIncreasing}
use Rattle.audit.specs.declared.account.Point.{Point}
use Rattle.audit.specs.IsLawful.{places_in}

-- the first number is no less than this one, and each is above the one before it
abbrev Rise : ℕ → List ℕ → Type 0
Rise floor [] = Unit {0}
Rise floor (x ∷ xs) = (floor ≤ x) × Rise (x + 1) xs

lower : (low high : ℕ) (xs : List ℕ) → low ≤ high → Rise high xs → Rise low xs
lower low high [] le rises = tt
lower low high (x ∷ xs) le rises = (omega (arith, le, rises.0), rises.1)

behind : (floor : ℕ) (xs ys : List ℕ) → Rise floor (xs ++ ys) → Rise floor ys
behind floor [] ys rises = rises
behind floor (x ∷ xs) ys rises = lower floor (x + 1) ys (omega (arith, rises.0)) (behind (x + 1) xs ys rises.1)

before : (floor : ℕ) (xs ys : List ℕ) → Rise floor (xs ++ ys) → Rise floor xs
before floor [] ys rises = tt
before floor (x ∷ xs) ys rises = (rises.0, before (x + 1) xs ys rises.1)

rise_of : (floor : ℕ) (xs : List ℕ) → (0 < length xs → floor ≤ get_or xs 0 0) → IsStrictlyIncreasing xs → Rise floor xs
rise_of floor [] first rises = tt
rise_of floor (x ∷ xs) first rises = (
  first (omega arith),
  rise_of (x + 1) xs (λ some. omega (arith, rises 0 (omega (arith, some)))) (λ k lt.
      let place : suc k + 1 ≡ suc (k + 1) = omega arith in
      let next : get_or (x ∷ xs) (suc k + 1) 0 ≡ get_or xs (k + 1) 0 = ap (λ (i : ℕ). get_or (x ∷ xs) i 0) place in
      omega (arith, next, rises (suc k) (omega (arith, lt)))),
)

-- the places of a partition among these points rise, from this one on
abbrev pub RiseIn : ℕ → ℕ → List Point → Type 0
RiseIn part floor points = Rise floor (places_in part points)

pub rises_in : (part : ℕ) (points : List Point) → IsStrictlyIncreasing (places_in part points) → RiseIn part 0 points
rises_in part points rises = rise_of 0 (places_in part points) (λ some. omega arith) rises

split_in : (part : ℕ) (xs ys : List Point) → places_in part (xs ++ ys) ≡ places_in part xs ++ places_in part ys
split_in part xs ys =
    ap (map (λ (point : Point). point.place)) (filter-append (λ (point : Point). eqb point.part part) xs ys)
    ∙ map-append (λ (point : Point). point.place) (filter (λ (point : Point). eqb point.part part) xs) (filter (λ (point : Point). eqb point.part part) ys)

pub before_in : (part floor : ℕ) (xs ys : List Point) → RiseIn part floor (xs ++ ys) → RiseIn part floor xs
before_in part floor xs ys rises = before floor (places_in part xs) (places_in part ys) (subst (Rise floor) (split_in part xs ys) rises)

pub behind_in : (part floor : ℕ) (xs ys : List Point) → RiseIn part floor (xs ++ ys) → RiseIn part floor ys
behind_in part floor xs ys rises = behind floor (places_in part xs) (places_in part ys) (subst (Rise floor) (split_in part xs ys) rises)

here : (point : Point) (points : List Point) → places_in point.part (point ∷ points) ≡ point.place ∷ places_in point.part points
here point points =
    let yes : eqb point.part point.part ≡ true = eq-eqb point.part point.part refl in rw yes refl

-- the first of the points is one of the partition's
pub first_in : (part floor : ℕ) (point : Point) (points : List Point) → point.part ≡ part → RiseIn part floor (point ∷ points) → (floor ≤ point.place) × RiseIn part (point.place + 1) points
first_in part floor point points own rises =
    let split : places_in part (point ∷ points) ≡ point.place ∷ places_in part points =
    ap (λ (i : ℕ). places_in i (point ∷ points)) (sym own) ∙ here point points ∙ ap (λ (i : ℕ). point.place ∷ places_in i points) own in
    let both = subst (Rise floor) split rises in
    (both.0, both.1)
