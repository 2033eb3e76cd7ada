-- How far the needs of a request are reached by numbers of its partitions, one item for each.
use Rattle.std.specs.Prelude.{ℕ, ◌+◌, ◌%◌, ◌==◌, if◌then◌else◌, List, [], ◌∷◌, Option, Some, None}
use Rattle.partlog.specs.declared.numbers.Numbers.{Numbers}
use Rattle.opcond.specs.Tally.{counted}
use Rattle.opcond.specs.declared.need.Need.{Need}

-- the value of a partition's gauge among its numbers
abbrev pub gauge_in : ℕ → Numbers → ℕ
gauge_in gauge numbers = if gauge % 3 == 0 then numbers.high else (if gauge % 3 == 1 then numbers.visible else numbers.bytes)

abbrev pub reached_at : Option Need → Numbers → ℕ
reached_at None numbers = 0
reached_at (Some need) numbers = counted need (gauge_in need.gauge numbers)

abbrev pub reached_by : List (Option Need) → List Numbers → ℕ
reached_by [] numbers = 0
reached_by (need ∷ needs) [] = 0
reached_by (need ∷ needs) (n ∷ numbers) = reached_at need n + reached_by needs numbers
