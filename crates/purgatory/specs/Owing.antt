-- What a pass owes, by gauge.
use Rattle.std.specs.Prelude.{◌≡◌, ◌⊎◌, ℕ, ◌<◌, ◌≤◌, List, length, slice_index}
use Rattle.room_core.specs.Numbers.{most_gauges}

-- the gauge lies outside of these
abbrev pub IsOutside : ℕ → ℕ → ℕ → Type 0
IsOutside from upto gauge = (gauge < from) ⊎ (upto ≤ gauge)

-- there is a debt for each gauge, and none of the gauges outside of these
pub record AreDebts (from upto : ℕ) (owed : List ℕ) : Type 0 where
  pub few : length owed ≤ most_gauges
  pub there : upto ≤ length owed
  pub none : (gauge : ℕ) → IsOutside from upto gauge → slice_index owed gauge ≡ 0
