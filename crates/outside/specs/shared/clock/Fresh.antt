-- The passes of a new clock.
use Rattle.std.specs.Prelude.{ℕ, List, [], map}
use Rattle.std.specs.List.{range_with_len}
use Rattle.atomic_table.specs.Seated.{TableId}
use Rattle.outside.specs.shared.clock.ClockViews.{PassView}

-- a pass that was told nothing and has seen nothing
abbrev pub fresh_pass : TableId → ℕ → PassView
fresh_pass id number = record { made = id; number = number; told = 0; seen = []; own = [] }

-- this many, by their numbers
abbrev pub fresh_passes : TableId → ℕ → List PassView
fresh_passes id passes = map (fresh_pass id) (range_with_len 0 passes)
