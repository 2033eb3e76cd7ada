-- What stands at the front of bytes where a field is read.
use Rattle.std.specs.Prelude.{◌≡◌, ◌⊎◌, ℕ, ◌≤◌, ◌<◌, ℤ, pos, List, ◌++◌, length, FitsSigned}
use Rattle.std.specs.List.{All}
use Rattle.std.specs.Int.{Width, byte_len}
use Rattle.kbytes.specs.Field.{Field, field, integer}

-- the bytes end within a varint of at most so many bytes: fewer are left, each with its top bit set
abbrev pub EndWithinVarint : ℕ → List ℕ → Type 0
EndWithinVarint most bytes = (length bytes < most) × All (λ b. 128 ≤ b) bytes

-- the field of some integer of the width stands at the front
abbrev pub BeginWith : Width → (ℤ → Field) → List ℕ → Type 0
BeginWith w kind bytes = (z : ℤ) × FitsSigned w z × ((rest : List ℕ) × (bytes ≡ field (kind z) ++ rest))

-- a length or a count of the width stands at the front, with the bytes after it
pub record Leads (w : Width) (z : ℤ) (bytes after : List ℕ) : Type 0 where
  pub fits : FitsSigned w z
  pub parts : bytes ≡ integer w z ++ after

abbrev pub HasLength : Width → ℤ → List ℕ → Type 0
HasLength w z bytes = (after : List ℕ) × Leads w z bytes after

-- the bytes end within a length, or fewer follow it than it says
abbrev pub EndWithinSized : Width → List ℕ → Type 0
EndWithinSized w bytes = (length bytes < byte_len w) ⊎ ((n : ℕ) × (after : List ℕ) × Leads w (pos n) bytes after × (length after < n))
