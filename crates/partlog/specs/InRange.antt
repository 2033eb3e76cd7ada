-- An offset that can be fetched from: 0 to the log end.
use Rattle.std.specs.Prelude.{ℕ, ◌≤◌, ℤ, pos, negsuc}

abbrev pub IsInRange : ℤ → ℕ → Type 0
IsInRange (pos offset) end = offset ≤ end
IsInRange (negsuc n) end = ⊥
