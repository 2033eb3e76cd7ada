-- What the objects of the real network are to contracts. They tell no bytes.
use Rattle.std.specs.Prelude.{ℕ, Bool, Option}

-- a link: how often it has failed, and whether it was shut
pub record Connection : Type 0 where
  pub faults : ℕ
  pub is_shut : Bool

-- a port: how often it has failed, the number with which it was opened, and how many links it gave and took back
pub record Listening : Type 0 where
  pub faults : ℕ
  pub opened_with : Option ℕ
  pub given : ℕ
  pub retired_count : ℕ
