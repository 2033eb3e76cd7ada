-- A tally as a loop over at most 64 needs counts it.
use Rattle.std.proofs.Common.{⊎_elim, ◌≡◌, ◌≢◌, ℕ, zero, suc, ◌+◌, ◌*◌, ◌-◌, ◌<◌, ◌≤◌, min, eqb, leb, refl, sym, ap, ◌∙◌, add-one, arith}
use Rattle.std.proofs.lemmas.Bool.{cases_eq, cases_lt, eq-eqb, ne_eqb, le-leb, lt-leb}
use Rattle.opcond.specs.Tally.{counted}
use Rattle.room_core.specs.Description.{gauge_of, need_of, tally_below}

pub tally-none : (words value : ℕ → ℕ) → tally_below words value 0 ≡ 0
unfolding tally_below
tally-none words value = refl

pub tally-more : (words value : ℕ → ℕ) (n : ℕ) → tally_below words value (n + 1) ≡ tally_below words value n + counted (need_of words n) (value (gauge_of words n))
unfolding tally_below
tally-more words value n = ap (tally_below words value) (add-one n)

counts_nothing : (cap start v : ℕ) → cap ≡ 0 → min cap (v - start) ≡ 0
counts_nothing cap start v e = omega arith

tally-past : (words value : ℕ → ℕ) → ((i : ℕ) → 64 ≤ i → words (5 + 3 * i) ≡ 0) → (n : ℕ) → 64 ≤ n → tally_below words value n ≡ tally_below words value 64
unfolding tally_below
tally-past words value none zero l = absurd (omega arith)
tally-past words value none (suc n) l =
    ⊎_elim
    (λ (same : suc n ≡ 64). ap (tally_below words value) same)
    (λ (other : suc n ≢ 64).
    let m : 64 ≤ n = omega arith in
    let before : tally_below words value n ≡ tally_below words value 64 = tally-past words value none n m in
    let here : counted (need_of words n) (value (gauge_of words n)) ≡ 0 = counts_nothing (words (5 + 3 * n)) (words (4 + 3 * n)) (value (gauge_of words n)) (none n m) in
    let sum : tally_below words value n + counted (need_of words n) (value (gauge_of words n)) ≡ tally_below words value 64 = omega (arith, before, here) in
    sum)
    (cases_eq (suc n) 64)

-- where words past the 64th need count nothing, no more of them need be counted
pub tally-lesser : (words value : ℕ → ℕ) → ((i : ℕ) → 64 ≤ i → words (5 + 3 * i) ≡ 0) → (n m : ℕ) → m ≡ min n 64 → tally_below words value n ≡ tally_below words value m
tally-lesser words value none n m e =
    ⊎_elim
    (λ (few : n < 64). let same : n ≡ m = omega arith in ap (tally_below words value) same)
    (λ (many : 64 ≤ n). let same : 64 ≡ m = omega arith in tally-past words value none n many ∙ ap (tally_below words value) same)
    (cases_lt n 64)

-- nothing is left where the tally is at least the least
pub left-none : (least sum left : ℕ) → left ≡ least - sum → eqb left 0 ≡ leb least sum
left-none least sum left e =
    ⊎_elim
    (λ (few : sum < least). ne_eqb left 0 (omega arith) ∙ sym (lt-leb least sum few))
    (λ (enough : least ≤ sum). let none : left ≡ 0 = omega arith in eq-eqb left 0 none ∙ sym (le-leb least sum enough))
    (cases_lt sum least)
