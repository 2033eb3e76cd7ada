-- The link that an accept gives.
use Rattle.std.specs.Prelude.{ℕ, List, [], ◌∷◌}
use Rattle.outside.specs.declared.shared.port.accepting.Accepting.{Accepting}
use Rattle.outside.specs.declared.shared.port.accepting.Accepting.TheVariants.{Link, Full, Ended, Faulted, NoMemory}

-- its number, where it gives one
abbrev pub numbers_in : {L : Type 0} → Accepting L → List ℕ
numbers_in (Link number link) = number ∷ []
numbers_in Full = []
numbers_in Ended = []
numbers_in Faulted = []
numbers_in NoMemory = []
