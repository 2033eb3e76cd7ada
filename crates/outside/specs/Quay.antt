-- What a port in memory is to contracts.
use Rattle.std.specs.Prelude.{ℕ, List, Bool, Option}
use Rattle.outside.specs.Plan.{Plan}
use Rattle.outside.specs.Wire.{Wire}

-- The links that it will give, in order, and the plan of its faults; the number with which it was opened, how many links it gave, and
-- whether it answered that no more come; how many links were retired, and these with their numbers.
pub record Quay : Type 0 where
  pub links : List Wire
  pub plan : Plan
  pub opened_with : Option ℕ
  pub given : ℕ
  pub is_ended : Bool
  pub retired_count : ℕ
  pub retired : List (ℕ × Wire)
