-- Sums over needs.
use Rattle.std.proofs.Common.{⊎_elim, ◌≡◌, ◌⊎◌, ℕ, zero, suc, ◌+◌, ◌*◌, ◌-◌, ◌<◌, ◌≤◌, min, inl, inr, ◌∙◌, ap, refl, subst, arith, Option, Some, None}
use Rattle.std.proofs.lemmas.Bool.{cases_lt}
use Rattle.std.specs.Prelude.{unwrap_or}
use Rattle.opcond.specs.Tally.{counted}
use Rattle.room_core.specs.Description.{needs_of, gauge_of, need_of, tally_below, tally}
use Rattle.room_core.specs.Readings.{known}
use Rattle.room_core.specs.Duty.{IsLate}

pub counted_rises : (start cap v w : ℕ) → v ≤ w → min cap (v - start) ≤ min cap (w - start)
counted_rises start cap v w h = omega arith

one_more : (P : ℕ → Type 0) (n : ℕ) → ((i : ℕ) → i < n → P i) → P n → (i : ℕ) → i < suc n → P i
one_more P n before here i l = ⊎_elim (λ (m : i < n). before i m) (λ (m : n ≤ i). subst P (omega arith) here) (cases_lt i n)

-- values that rise on the needs' gauges never lower the tally
pub below_rises : (words v w : ℕ → ℕ) (n : ℕ) → ((i : ℕ) → i < n → v (gauge_of words i) ≤ w (gauge_of words i)) → tally_below words v n ≤ tally_below words w n
unfolding tally_below
below_rises words v w zero h = omega arith
below_rises words v w (suc n) h =
    let a : tally_below words v n ≤ tally_below words w n = below_rises words v w n (λ i l. h i (omega arith)) in
    let b : counted (need_of words n) (v (gauge_of words n)) ≤ counted (need_of words n) (w (gauge_of words n)) = counted_rises (words (4 + 3 * n)) (words (5 + 3 * n)) _ _ (h n (omega arith)) in
    omega arith

pub tally_rises : (words v w : ℕ → ℕ) → ((i : ℕ) → i < needs_of words → v (gauge_of words i) ≤ w (gauge_of words i)) → tally words v ≤ tally words w
tally_rises words v w h = below_rises words v w (needs_of words) h

-- descriptions that agree on the words of the needs have the same tally
pub below_agrees : (a b v : ℕ → ℕ) (n : ℕ) → ((at : ℕ) → at < 3 + 3 * n → a at ≡ b at) → tally_below a v n ≡ tally_below b v n
unfolding tally_below
below_agrees a b v zero h = refl
below_agrees a b v (suc n) h =
    let gauge : a (3 + 3 * n) ≡ b (3 + 3 * n) = h (3 + 3 * n) (omega arith) in
    let start : a (4 + 3 * n) ≡ b (4 + 3 * n) = h (4 + 3 * n) (omega arith) in
    let cap : a (5 + 3 * n) ≡ b (5 + 3 * n) = h (5 + 3 * n) (omega arith) in
    let before : tally_below a v n ≡ tally_below b v n = below_agrees a b v n (λ at l. h at (omega arith)) in
    cc

pub tally_agrees : (a b v : ℕ → ℕ) → ((at : ℕ) → at < 3 + 3 * needs_of a → a at ≡ b at) → tally a v ≡ tally b v
tally_agrees a b v h =
    below_agrees a b v (needs_of a) h ∙ ap (tally_below b v) (h 2 (omega arith))

unwrap_below : (o : Option ℕ) (v : ℕ) → ((x : ℕ) → o ≡ Some x → x ≤ v) → unwrap_or o v ≤ v
unwrap_below None v h = omega arith
unwrap_below (Some x) v h = h x refl

-- readings that are at most the values: losing them never lowers what is known
pub known_below : (readings : ℕ → Option ℕ) (value : ℕ → ℕ) → ((g x : ℕ) → readings g ≡ Some x → x ≤ value g) → (g : ℕ) → known readings value g ≤ value g
known_below readings value h g = unwrap_below (readings g) (value g) (h g)

settled_or : (words value begun : ℕ → ℕ) (n : ℕ) → ((i : ℕ) → i < n → value (gauge_of words i) ≤ begun (gauge_of words i)) ⊎ ((i : ℕ) × (i < n) × (begun (gauge_of words i) < value (gauge_of words i)))
settled_or words value begun zero = inl (λ i l. absurd (omega arith))
settled_or words value begun (suc n) =
    ⊎_elim
    (λ (before : (i : ℕ) → i < n → value (gauge_of words i) ≤ begun (gauge_of words i)).
    ⊎_elim
    (λ (late : begun (gauge_of words n) < value (gauge_of words n)). inr (n, omega arith, late))
    (λ (settled : value (gauge_of words n) ≤ begun (gauge_of words n)).
    inl (λ i l. one_more (λ j. value (gauge_of words j) ≤ begun (gauge_of words j)) n before settled i l))
    (cases_lt (begun (gauge_of words n)) (value (gauge_of words n))))
    (λ (late : (i : ℕ) × (i < n) × (begun (gauge_of words i) < value (gauge_of words i))). inr (late.0, omega (arith, late.1), late.2))
    (settled_or words value begun n)

-- either a need's gauge is late, or all are begun up to their values
pub late_or : (words value begun : ℕ → ℕ) {A : Type 0} → (((i : ℕ) → i < needs_of words → value (gauge_of words i) ≤ begun (gauge_of words i)) → A) → A ⊎ IsLate words value begun
late_or words value begun h =
    ⊎_elim (λ settled. inl (h settled)) (λ l. inr (record { need = l.0; within = l.1; late = l.2 }))
    (settled_or words value begun (needs_of words))
