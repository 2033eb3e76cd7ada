-- Tallies over the same words and values.
use Rattle.std.proofs.Common.{◌≡◌, ◌∙◌, ℕ, zero, suc, ◌+◌, ◌*◌, ◌<◌, ap, refl, arith}
use Rattle.opcond.specs.Tally.{counted}
use Rattle.room_core.specs.Description.{gauge_of, need_of, tally_below}

pub tally_same : (words other : ℕ → ℕ) (value reading : ℕ → ℕ) (n : ℕ) → ((at : ℕ) → at < 3 + 3 * n → words at ≡ other at)
    → ((i : ℕ) → i < n → value (gauge_of words i) ≡ reading (gauge_of words i)) → tally_below words value n ≡ tally_below other reading n
unfolding tally_below
tally_same words other value reading zero same read = refl
tally_same words other value reading (suc n) same read =
    let less : 3 + 3 * n < 3 + 3 * suc n = omega arith in
    let first : words (3 + 3 * n) ≡ other (3 + 3 * n) = same (3 + 3 * n) (omega arith) in
    let second : words (4 + 3 * n) ≡ other (4 + 3 * n) = same (4 + 3 * n) (omega arith) in
    let third : words (5 + 3 * n) ≡ other (5 + 3 * n) = same (5 + 3 * n) (omega arith) in
    let value_is : value (words (3 + 3 * n)) ≡ reading (other (3 + 3 * n)) = read n (omega arith) ∙ ap reading first in
    let before : tally_below words value n ≡ tally_below other reading n = tally_same words other value reading n (λ at l. same at (omega (arith, l))) (λ i l. read i (omega (arith, l))) in
    ap (λ sum. sum + counted (need_of words n) (value (gauge_of words n))) before
    ∙ ap (λ need. tally_below other reading n + counted need (value (gauge_of words n))) (λ i. record { gauge = first i; start = second i; cap = third i })
    ∙ ap (λ v. tally_below other reading n + counted (need_of other n) v) value_is
