-- What is read of a text in shares.
use Rattle.std.specs.Prelude.{ℕ, List, IfOk, Result}
use Rattle.std.specs.List.{flat_map}
use denote.Ref.{Bor}
use Rattle.kbytes.specs.declared.no_memory.NoMemory.{NoMemory}
use Rattle.trace_file.specs.declared.reading.PartLines.{PartLines}
use Rattle.trace_file.specs.TextRead.{AreLinesOf}
use Rattle.trace_file.specs.Trace.{pieces_of}

-- the pieces of one share after the other
abbrev pub pieces_in : List (Bor (List ℕ)) → List (List ℕ)
pieces_in shares = flat_map (λ share. pieces_of share.now) shares

-- where a share was read, these are its lines
abbrev pub IsShareRead : Bor (List ℕ) → Result PartLines NoMemory → Type 0
IsShareRead share read = IfOk read (AreLinesOf (pieces_of share.now))
