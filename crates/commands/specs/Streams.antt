-- What was read of a source, and what was written to a sink.
use Rattle.std.specs.Prelude.{ℕ, ◌+◌, ◌≡◌, ◌≤◌, ◌⊎◌, ◌∷◌, ◌++◌, [], List, codes, length, take, Option}
use Rattle.std.specs.Fmt.{decimal}
use Rattle.std.specs.Io.KnownBytes.{Appends, Consumes, IsAtEnd}
use Rattle.trace_file.specs.declared.line.TheConstants.{MOST_TRACE_BYTES}

-- all that the source had, or one byte more than a trace may have
pub record IsInput (old new : Option (List ℕ)) (text : List ℕ) : Type 0 where
  pub consumed : Consumes old new text
  pub whole : IsAtEnd new ⊎ (length text ≡ MOST_TRACE_BYTES + 1)

-- a front of the text was written
abbrev pub HasWrittenFront : Option (List ℕ) → Option (List ℕ) → List ℕ → Type 0
HasWrittenFront old new text = (n : ℕ) × (n ≤ length text) × Appends old new (take n text)

-- the words of a reply's line before its digits
abbrev pub line_head : ℕ → List ℕ
line_head session = codes "reply " ++ (decimal session ++ 32 ∷ [])
