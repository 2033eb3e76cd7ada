-- A record's bytes (Kafka's record batch format, version 2).
use Rattle.std.specs.Prelude.{ℕ, suc, pos, negsuc, List, [], ◌∷◌, ◌++◌, length, Option, Some, None, FitsSigned}
use Rattle.std.specs.List.{flat_map}
use Rattle.std.specs.Int.{w8, w64}
use Rattle.kbytes.specs.Field.{field, Int8, Varint, Varlong}
use Rattle.kbatch.specs.declared.record.Record.{Record}
use Rattle.kbatch.specs.declared.record.Header.{Header}

-- a length, and that many bytes; the length -1 for null
abbrev pub sized : Option (List ℕ) → List ℕ
sized None = field (Varint (negsuc 0))
sized (Some bytes) = field (Varint (pos (length bytes))) ++ bytes

unfoldable pub header_bytes : Header → List ℕ
header_bytes h = sized (Some h.key) ++ sized h.value

-- what stands after the record's length. Its offset is the batch's base offset and delta.
unfoldable pub body_bytes : ℕ → Record → List ℕ
body_bytes delta r =
    field (Int8 r.attributes) ++ (field (Varlong r.time) ++ (field (Varint (pos delta)) ++ (sized r.key ++ (sized r.value
    ++ (field (Varint (pos (length r.headers))) ++ flat_map header_bytes r.headers)))))

abbrev pub record_bytes : ℕ → Record → List ℕ
record_bytes delta r = sized (Some (body_bytes delta r))

-- records one after the other, whose offset deltas rise by one
abbrev pub records_from : ℕ → List Record → List ℕ
records_from delta [] = []
records_from delta (r ∷ rs) = record_bytes delta r ++ records_from (suc delta) rs

-- its numbers are those of their types
pub record IsRecord (r : Record) : Type 0 where
  pub attributes : FitsSigned w8 r.attributes
  pub time : FitsSigned w64 r.time
