-- The two halves of an object in memory.
use Rattle.std.specs.Prelude.{ℕ, List}

-- what is read from: the bytes that were taken, and those that are left
pub record Input : Type 0 where
  pub taken : List ℕ
  pub left : List ℕ

-- what is written to: the bytes that were written, and the number for which there is room in all
pub record Output : Type 0 where
  pub written : List ℕ
  pub room : ℕ
