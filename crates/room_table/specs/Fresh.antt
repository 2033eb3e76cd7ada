-- All parts of a shape, as they are handed out: the sources, the passes, and the scanners, of which the clock's is the last.
use Rattle.std.specs.Prelude.{ℕ, zero, suc, ◌+◌, ◌-◌, List, [], ◌∷◌, ◌++◌}
use Rattle.room_core.specs.declared.shape.Shape.{Shape}
use Rattle.room_core.specs.Numbers.{clock_scanner}
use Rattle.room_table.specs.declared.part.Part.{Part}

-- so many parts that have made no step, with the numbers from the first one on
abbrev pub sources_from : Shape → ℕ → ℕ → List Part
sources_from shape first zero = []
sources_from shape first (suc n) = Part.Source shape first [] ∷ sources_from shape (first + 1) n

abbrev pub callers_from : Shape → ℕ → ℕ → List Part
callers_from shape first zero = []
callers_from shape first (suc n) = Part.Caller shape first [] ∷ callers_from shape (first + 1) n

abbrev pub scanners_from : Shape → ℕ → ℕ → List Part
scanners_from shape first zero = []
scanners_from shape first (suc n) = Part.Scanner shape first [] ∷ scanners_from shape (first + 1) n

-- the clock's scanner
abbrev pub last_part : Shape → List Part
last_part shape = Part.Scanner shape clock_scanner [] ∷ []

-- the scanners, from the first one on
abbrev pub all_scanners : Shape → List Part
all_scanners shape = scanners_from shape 0 (shape.scanners - 1) ++ last_part shape

abbrev pub all_callers : Shape → List Part
all_callers shape = callers_from shape 0 shape.passes ++ all_scanners shape

abbrev pub all_parts : Shape → List Part
all_parts shape = sources_from shape 0 shape.gauges ++ all_callers shape
