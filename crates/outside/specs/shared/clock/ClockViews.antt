-- What a shared clock and its passes are to contracts.
use Rattle.std.specs.Prelude.{◌≡◌, ℕ, List}
use Rattle.atomic_table.specs.Seated.{TableId}
use Rattle.outside.specs.declared.shared.clock.told_moment.ToldMoment.{ToldMoment}

-- a shared clock: which one it is, and how many passes it has
pub record ClockView : Type 0 where
  pub id : TableId
  pub passes : ℕ

-- A pass: the clock with which it was made, its number, and the greatest moment that it was told, or 0. And of the moments that were told
-- to any pass those that it saw last, and those that it entered itself.
pub record PassView : Type 0 where
  pub made : TableId
  pub number : ℕ
  pub told : ℕ
  pub seen : List ToldMoment
  pub own : List ToldMoment

-- the pass was made with this clock
abbrev pub IsPassOf : ClockView → PassView → Type 0
IsPassOf clock pass = pass.made ≡ clock.id
