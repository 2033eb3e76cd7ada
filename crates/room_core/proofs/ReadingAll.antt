-- The readings of a check, as a loop over the needs looks for them.
use Rattle.std.proofs.Common.{⊎_elim, ◌≡◌, ℕ, ◌+◌, ◌<◌, ◌≤◌, min, Option, sym, subst, ◌∙◌, arith}
use Rattle.std.proofs.lemmas.Bool.{cases_lt}
use Rattle.room_core.specs.Checks.{AreRead, IsRead}
use Rattle.room_core.specs.Description.{gauge_of}

pub read-more : (readings : ℕ → Option ℕ) (last : ℕ) (words : ℕ → ℕ) (n : ℕ) → ((i : ℕ) → i < n → IsRead readings last (gauge_of words i)) → IsRead readings last (gauge_of words n) → (i : ℕ) → i < n + 1 → IsRead readings last (gauge_of words i)
read-more readings last words n before here i l =
    ⊎_elim
    (λ (m : i < n). before i m)
    (λ (m : n ≤ i). let e : n ≡ i = omega arith in subst (λ k. IsRead readings last (gauge_of words k)) e here)
    (cases_lt i n)

-- all needs past the 64th have one gauge, so that one of them stands for all
pub read-all : (readings : ℕ → Option ℕ) (last : ℕ) (words : ℕ → ℕ) → ((i : ℕ) → 64 ≤ i → gauge_of words i ≡ 0) → (m : ℕ) → m ≡ min (words 2) 65 → ((i : ℕ) → i < m → IsRead readings last (gauge_of words i)) → AreRead readings last words
read-all readings last words none m e before =
    λ i l. ⊎_elim
    (λ (few : i < m). before i few)
    (λ (many : m ≤ i).
    let past : 64 ≤ i = omega arith in
    let there : 64 < m = omega arith in
    subst (IsRead readings last) (none 64 (omega arith) ∙ sym (none i past)) (before 64 there))
    (cases_lt i m)
