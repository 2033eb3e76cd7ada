-- What dials are to contracts.
use Rattle.std.specs.Prelude.{ℕ, List, Option}
use Rattle.outside.specs.Plan.{Plan}
use Rattle.outside.specs.Wire.{Wire}

-- a dial in memory: the links that it will give, in order, and the plan of its faults; how often no link was left; the port that was dialled
-- last; and the links that were retired, each with the port that was dialled last before
pub record Switchboard : Type 0 where
  pub links : List Wire
  pub plan : Plan
  pub missed : ℕ
  pub dialled : ℕ
  pub retired : List (ℕ × Wire)

-- a dial of the real network, which tells no links
pub record Dialler : Type 0 where
  pub faults : ℕ
  pub dialled : ℕ

-- any dial, by the meanings of its trait
pub record DialView (L : Type 0) : Type 0 where
  pub faults : ℕ
  pub dialled : ℕ
  pub retired : Option (List (ℕ × L))

abbrev pub dial_by : {D L : Type 0} → (D → ℕ) → (D → ℕ) → (D → Option (List (ℕ × L))) → D → DialView L
dial_by faults dialled retired dial = record { faults = faults dial; dialled = dialled dial; retired = retired dial }
