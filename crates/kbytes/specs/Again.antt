-- What is written is read again.
use Rattle.std.specs.Prelude.{◌≡◌, List, ◌++◌, ℕ, length, Result, Ok}
use Rattle.kbytes.specs.declared.fault.ByteFault.{ByteFault}
use Rattle.kbytes.specs.Cursor.{Cursor, rest_of, moved}
use Rattle.kbytes.specs.Field.{Field, field}

-- where the field of a value stands, whatever follows it, this reading gives the value and the place behind the field
abbrev pub ReadsAgain : {X : Type 0} → (Cursor → Result (X × Cursor) ByteFault) → (X → Field) → (X → Type 0) → Type 0
ReadsAgain {X} read kind fits = (x : X) (c : Cursor) (rest : List ℕ) → fits x → rest_of c ≡ field (kind x) ++ rest → read c ≡ Ok (x, moved c (length (field (kind x))))
