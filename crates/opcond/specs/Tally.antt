-- How far the gauges have come for an operation.
use Rattle.std.specs.Prelude.{ℕ, ◌+◌, ◌-◌, ◌≤◌, ◌⊎◌, min, List, [], ◌∷◌}
use Rattle.opcond.specs.declared.need.Need.{Need}
use Rattle.opcond.specs.Operation.{Operation}

-- what counts of a gauge's value: the part past `start`, but no more than `cap`
abbrev pub counted : Need → ℕ → ℕ
counted need value = min need.cap (value - need.start)

-- the sum over the needs of what counts, the values standing in the order of the needs; a value that isn't there counts 0
abbrev pub tally : List Need → List ℕ → ℕ
tally [] values = 0
tally (need ∷ needs) [] = 0
tally (need ∷ needs) (value ∷ values) = counted need value + tally needs values

abbrev pub IsSatisfied : Operation → List ℕ → Type 0
IsSatisfied op values = op.least ≤ tally op.needs values

abbrev pub IsOverdue : Operation → ℕ → Type 0
IsOverdue op moment = op.deadline ≤ moment

-- what waits no longer
abbrev pub IsAnswerable : Operation → List ℕ → ℕ → Type 0
IsAnswerable op values moment = IsSatisfied op values ⊎ IsOverdue op moment
