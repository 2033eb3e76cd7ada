-- Whole batches of a log, as a fetch reads them.
use Rattle.std.specs.Prelude.{ℕ, ◌-◌, ◌==◌, Bool, List, [], ◌∷◌, length, take, nat_lt, nat_le, if◌then◌else◌}
use Rattle.std.specs.List.{flat_map}
use Rattle.partlog.specs.Batches.{StoredBatch}

-- the batches from a byte place on
abbrev pub batches_past : ℕ → List StoredBatch → List StoredBatch
batches_past place [] = []
batches_past place (batch ∷ batches) =
    if place == 0 then batch ∷ batches else batches_past (place - length batch.bytes) batches

-- whole batches from the front, as many as fit together
abbrev pub fitting : ℕ → List StoredBatch → List StoredBatch
fitting limit [] = []
fitting limit (batch ∷ batches) =
    if nat_le (length batch.bytes) limit then batch ∷ fitting (limit - length batch.bytes) batches else []

-- the batches that end at or before a byte place, which are those that fit together into the bytes before it
abbrev pub batches_upto : ℕ → List StoredBatch → List StoredBatch
batches_upto place batches = fitting place batches

-- where not even the first fits and the reply holds no batch yet, that one is taken
abbrev pub taken : ℕ → Bool → List StoredBatch → List StoredBatch
taken limit any batches =
    if any then fitting limit batches
    else (if nat_lt 0 (length (fitting limit batches)) then fitting limit batches else take 1 batches)

-- the bytes of these batches, one after the other
abbrev pub joined : List StoredBatch → List ℕ
joined batches = flat_map (λ batch. batch.bytes) batches
