-- What makes a list of numbers bytes.
use Rattle.std.specs.Prelude.{ℕ, ◌<◌, List, slice_index}

abbrev pub IsBytes : List ℕ → Type 0
IsBytes bytes = (i : ℕ) → slice_index bytes i < 256
