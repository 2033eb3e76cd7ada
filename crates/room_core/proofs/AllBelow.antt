-- A test of each number below another.
use Rattle.std.proofs.Common.{⊎_elim, ◌≡◌, ◌≢◌, ℕ, zero, suc, ◌+◌, ◌<◌, Bool, true, false, ◌&&◌, refl, ap, subst, ◌∙◌, add-one, arith}
use Rattle.std.proofs.lemmas.Bool.{cases_eq}
use Rattle.std.proofs.Math.Bool.{and-false}
use Rattle.room_core.specs.Passes.{all_below}

pub all_below-none : (f : ℕ → Bool) → all_below f 0 ≡ true
unfolding all_below
all_below-none f = refl

pub all_below-more : (f : ℕ → Bool) (n : ℕ) → all_below f n ≡ true → f n ≡ true → all_below f (n + 1) ≡ true
unfolding all_below
all_below-more f n before here = ap (all_below f) (add-one n) ∙ ap (λ b. b && f n) before ∙ here

pub all_below-false : (f : ℕ → Bool) (n i : ℕ) → i < n → f i ≡ false → all_below f n ≡ false
unfolding all_below
all_below-false f zero i l e = absurd (omega arith)
all_below-false f (suc n) i l e =
    ⊎_elim
    (λ (same : i ≡ n). ap (λ b. all_below f n && b) (subst (λ k. f k ≡ false) same e) ∙ and-false (all_below f n))
    (λ (other : i ≢ n). ap (λ b. b && f n) (all_below-false f n i (omega arith) e))
    (cases_eq i n)
