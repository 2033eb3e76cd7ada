-- A reply that is being read: the fields so far, and the reader behind them.
use Rattle.std.specs.Prelude.{◌≡◌, ℕ, pos, List, [], ◌∷◌, ◌++◌, length, Some}
use Rattle.kbytes.specs.Cursor.{Cursor, rest_of}
use Rattle.kbytes.specs.Field.{Field, Int32, String, Array, fields}
use Rattle.follower.specs.ReplyBody.{Agree, Asked}

-- these bytes don't begin with that part
abbrev pub NoneBegins : List ℕ → List ℕ → Type 0
NoneBegins bytes part = (after : List ℕ) → bytes ≡ part ++ after → ⊥

-- the fields up to the partition's index
abbrev pub head_fields : Asked → List Field
head_fields asked =
    Int32 asked.correlation ∷ Int32 (pos 0) ∷ Array (Some 1) ∷ String asked.topic ∷ Array (Some 1) ∷ Int32 asked.index ∷ []

-- these fields of the body stand as they have to, and the reader stands behind them
pub record HasRead (asked : Asked) (body : List ℕ) (front : List Field) (reader : Cursor) : Type 0 where
  pub parts : body ≡ fields front ++ rest_of reader
  pub at : reader.at ≡ length (fields front)
  pub agree : Agree asked [] front
