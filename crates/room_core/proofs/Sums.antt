-- Sums of the first terms.
use Rattle.std.proofs.Common.{◌≡◌, ℕ, zero, suc, ◌+◌, ◌<◌, refl, arith}
use Rattle.room_core.specs.Counts.{sum_below}

pub sum_same : (f g : ℕ → ℕ) (n : ℕ) → ((i : ℕ) → i < n → f i ≡ g i) → sum_below f n ≡ sum_below g n
unfolding sum_below
sum_same f g zero h = refl
sum_same f g (suc n) h = λ k. sum_same f g n (λ i l. h i (omega arith)) k + h n (omega arith) k

pub sum_none : (n : ℕ) → sum_below (λ i. 0) n ≡ 0
unfolding sum_below
sum_none zero = refl
sum_none (suc n) = omega (arith, sum_none n)

pub sum_both : (f g : ℕ → ℕ) (n : ℕ) → sum_below (λ i. f i + g i) n ≡ sum_below f n + sum_below g n
unfolding sum_below
sum_both f g zero = refl
sum_both f g (suc n) = omega (arith, sum_both f g n)
