-- The due ids: who is among them, and their order.
use Rattle.std.proofs.Common.{⊎_elim, ◌≡◌, ◌≢◌, ◌==◌, ℕ, ◌+◌, ◌<◌, ◌≤◌, List, Option, Some, None, [], ◌∷◌, get_or, take, cond, suc, count_by, Contains, IsSomeAnd, ap, ◌∙◌, arith, zero-add, length-take}
use Rattle.std.specs.List.{sum_by}
use Rattle.std.specs.List.Sorted.{IsNonDecreasing, IsStrictlyIncreasing}
use Rattle.std.proofs.lemmas.List.{get_or-take}
use Rattle.std.proofs.lemmas.List.Sums.{sum_by-cons, get_or-le-sum_by, sum_by_more_le}
use Rattle.std.proofs.lemmas.Bool.{cases_eq, cases_lt}
use Rattle.timing_wheel.specs.declared.timer.Timer.{Timer}
use Rattle.timing_wheel.specs.Handover.{owed, handed}
use Rattle.timing_wheel.specs.DueList.{DueList}
use Rattle.timing_wheel.proofs.Turns.{owed-none, owed-due, owed-past, counts_one, counts_none}

abbrev is_it : ℕ → ℕ → ℕ
is_it q x = cond (x == q) 1 0

pub contains_counted : (ids : List ℕ) (q : ℕ) → 0 < count_by (λ x. x == q) ids → Contains ids q
contains_counted [] q h = absurd (omega arith)
contains_counted (x ∷ ids) q h =
    let e : count_by (λ x. x == q) (x ∷ ids) ≡ is_it q x + count_by (λ x. x == q) ids = sum_by-cons (is_it q) x ids in
    ⊎_elim
    (λ (same : x ≡ q). (0, omega arith, same))
    (λ (other : x ≢ q).
    let none : is_it q x ≡ 0 = counts_none x q other in
    let r = contains_counted ids q (omega arith) in
    (suc r.0, let l = r.1 in omega arith, r.2))
    (cases_eq x q)

pub counted_contains : (ids : List ℕ) (q : ℕ) → Contains ids q → 0 < count_by (λ x. x == q) ids
counted_contains ids q c =
    let a : is_it q (get_or ids c.0 q) ≤ count_by (λ x. x == q) ids = get_or-le-sum_by (is_it q) ids c.0 q c.1 in
    let b : is_it q (get_or ids c.0 q) ≡ 1 = counts_one (get_or ids c.0 q) q c.2 in
    omega arith

-- numbers that do not fall, each of which stands once, rise
pub rising_once : (ids : List ℕ) → IsNonDecreasing ids → ((q : ℕ) → count_by (λ x. x == q) ids ≤ 1) → IsStrictlyIncreasing ids
rising_once ids up once k l =
    let q = get_or ids k 0 in
    let le : q ≤ get_or ids (k + 1) 0 = up k (k + 1) 0 (omega arith) l in
    ⊎_elim
    (λ (same : get_or ids (k + 1) 0 ≡ q).
    let front = take (k + 1) ids in
    let long = length-take (k + 1) ids in
    let first : get_or front k 0 ≡ q = get_or-take (k + 1) ids k 0 (omega arith) in
    let a : is_it q (get_or front k 0) ≤ sum_by (is_it q) front = get_or-le-sum_by (is_it q) front k 0 (omega arith) in
    let b : sum_by (is_it q) front + is_it q (get_or ids (k + 1) 0) ≤ count_by (λ x. x == q) ids = sum_by_more_le (is_it q) ids (k + 1) 0 l in
    let one = counts_one (get_or front k 0) q first in
    let two = counts_one (get_or ids (k + 1) 0) q same in
    let most = once q in
    absurd (omega arith))
    (λ (other : get_or ids (k + 1) 0 ≢ q). omega arith)
    (cases_eq (get_or ids (k + 1) 0) q)

-- what is owed, and being due

pub owed_at_most_one : (t : ℕ) (slot : Option Timer) → owed t slot ≤ 1
owed_at_most_one t None = let e = owed-none t in omega arith
owed_at_most_one t (Some timer) =
    ⊎_elim
    (λ (l : t < timer.deadline). let e = owed-past t timer l in omega arith)
    (λ (l : timer.deadline ≤ t). let e = owed-due t timer l in omega arith)
    (cases_lt t timer.deadline)

pub due_owed : (t : ℕ) (slot : Option Timer) → 0 < owed t slot → IsSomeAnd slot (λ timer. timer.deadline ≤ t)
due_owed t None h = let e = owed-none t in absurd (omega arith)
due_owed t (Some timer) h =
    ⊎_elim
    (λ (l : t < timer.deadline). let e = owed-past t timer l in absurd (omega arith))
    (λ (l : timer.deadline ≤ t). l)
    (cases_lt t timer.deadline)

pub owed_due : (t : ℕ) (slot : Option Timer) → IsSomeAnd slot (λ timer. timer.deadline ≤ t) → 0 < owed t slot
owed_due t None h = absurd h
owed_due t (Some timer) h = let e = owed-due t timer h in omega arith

-- how often an id stands among the due ids after the turn and the sort
pub handed_once : (t : ℕ) (slots : List (Option Timer)) (due : DueList) (ids sorted : List ℕ) (id : ℕ) → due.ids ≡ [] → count_by (λ x. x == id) sorted ≡ count_by (λ x. x == id) ids → count_by (λ x. x == id) ids ≡ handed t slots due id → count_by (λ x. x == id) sorted ≡ owed t (get_or slots id None)
handed_once t slots due ids sorted id empty same hands =
    same ∙ hands ∙ ap (λ xs. count_by (λ x. x == id) xs + owed t (get_or slots id None)) empty ∙ zero-add (owed t (get_or slots id None))
