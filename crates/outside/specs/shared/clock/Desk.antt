-- What is behind the lock of a shared clock.
use Rattle.std.specs.Prelude.{ℕ, List, []}
use Rattle.outside.specs.declared.shared.clock.told_moment.ToldMoment.{ToldMoment}

-- the clock, and the moments that were told
pub record Desk (C : Type 0) : Type 0 where
  pub clock : C
  pub told : List ToldMoment

-- its entries
abbrev pub told_of : {C : Type 0} → Desk C → List ToldMoment
told_of desk = desk.told

-- it needs no name
abbrev pub nameless : {C : Type 0} → Desk C → List ℕ
nameless desk = []
