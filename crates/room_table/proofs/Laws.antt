-- What the crates above may cite.
use Rattle.std.proofs.Common.{◌≡◌, ℕ, ◌+◌, ◌<◌, ◌≤◌, List, length, eqb}
use Rattle.std.specs.Prelude.{All, count_by}
use Rattle.room_core.specs.Counts.{sum_below}
use Rattle.room_table.proofs.Pigeons as pigeons
-- a session word's number is below 2^42
pub use Rattle.room_table.proofs.Exchanges.{session_small}

-- the sum of sums
pub sum_both : (f g both : ℕ → ℕ) (n : ℕ) → ((i : ℕ) → both i ≡ f i + g i) → sum_below both n ≡ sum_below f n + sum_below g n
sum_both = pigeons.sum_both

-- one term is at most the sum
pub term_le : (f : ℕ → ℕ) (n i : ℕ) → i < n → f i ≤ sum_below f n
term_le = pigeons.term_le

-- items whose numbers are below n are at most as many as there are of all these numbers
pub all_counted : {A : Type 0} (key : A → ℕ) (n : ℕ) (xs : List A) → All (λ x. key x < n) xs → length xs ≤ sum_below (λ i. count_by (λ x. eqb (key x) i) xs) n
all_counted = pigeons.all_below
