-- What a clock in memory is to contracts.
use Rattle.std.specs.Prelude.{ℕ}

-- the moment at which it is, by how much it moves on where it rests, and the moment that it gave last
pub record Hand : Type 0 where
  pub at : ℕ
  pub step : ℕ
  pub given : ℕ
