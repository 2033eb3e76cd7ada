-- Records and headers read from the left with all that they hold, or None where one doesn't read.
use Rattle.std.specs.Prelude.{◌≡◌, ℕ, zero, suc, List, [], ◌∷◌, Option, Some, None, Result, Ok, Err, ⊤}
use Rattle.kbatch.specs.declared.decode.Stop.{Stop}
use Rattle.kbatch.specs.declared.decode.Stop.TheVariants.{Unread, NoMemory}
use Rattle.kbatch.specs.declared.record.Record.{Record}
use Rattle.kbatch.specs.Walk.{◌>>=◌, key_at, header_at, parts_at}

-- what a function returned is what reading gives; out of memory can come at any time
abbrev pub Decodes : {X : Type 0} → Result X Stop → Option X → Type 0
Decodes (Ok x) read = read ≡ Some x
Decodes (Err Unread) read = read ≡ None
Decodes (Err NoMemory) read = ⊤

-- so many items, one after the other
unfoldable pub list_at : {X : Type 0} → (List ℕ → Option (X × List ℕ)) → ℕ → List ℕ → Option (List X)
list_at one zero bytes = Some []
list_at one (suc n) bytes = one bytes >>= λ x. list_at one n x.1 >>= λ xs. Some (x.0 ∷ xs)

unfoldable pub body_at : List ℕ → Option Record
body_at bytes = do
  parts ← parts_at bytes
  headers ← list_at header_at parts.count parts.headers
  Some (record { attributes = parts.attributes; time = parts.time; key = parts.key; value = parts.value; headers = headers })

-- a record after its length
unfoldable pub record_at : List ℕ → Option (Record × List ℕ)
record_at bytes = do
  framed ← key_at bytes
  r ← body_at framed.0
  Some (r, framed.1)
