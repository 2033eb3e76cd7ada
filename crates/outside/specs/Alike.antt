-- An object that shows its bytes goes on showing them, and one that doesn't goes on not to.
use Rattle.std.specs.Prelude.{◌≡◌, ℕ, List, Option, is_some}

abbrev pub ShowsAlike : Option (List ℕ) → Option (List ℕ) → Type 0
ShowsAlike old new = is_some new ≡ is_some old
