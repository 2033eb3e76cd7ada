-- What a link in memory is to contracts.
use Rattle.std.specs.Prelude.{ℕ, List, Bool, Some}
use Rattle.outside.specs.NewLink.{IsNewLink}
use Rattle.outside.specs.Plan.{Plan}
use Rattle.outside.specs.Store.{Store}

-- the bytes that were taken, left and written, the number for which there is room in all, the plan of its faults, and whether it was shut
pub record Wire : Type 0 where
  pub taken : List ℕ
  pub left : List ℕ
  pub written : List ℕ
  pub room : ℕ
  pub plan : Plan
  pub is_shut : Bool

-- what is written to it
abbrev pub store_of : Wire → Store
store_of wire = record { written = wire.written; room = wire.room; plan = wire.plan }

-- as it was accepted
abbrev pub IsNewWire : Wire → Type 0
IsNewWire wire = IsNewLink (Some wire.taken) (Some wire.written) wire.plan.faults wire.is_shut
