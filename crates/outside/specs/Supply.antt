-- What a source in memory is to contracts.
use Rattle.std.specs.Prelude.{ℕ, List}
use Rattle.outside.specs.Plan.{Plan}

-- the bytes that are left, and the plan of its faults
pub record Supply : Type 0 where
  pub left : List ℕ
  pub plan : Plan
