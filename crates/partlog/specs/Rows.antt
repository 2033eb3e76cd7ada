-- Batches that follow each other in a log.
use Rattle.std.specs.Prelude.{◌≡◌, ℕ, ◌<◌, List, [], ◌∷◌, length}
use Rattle.partlog.specs.Batches.{StoredBatch, next_offset}

-- each has bytes
abbrev pub IsFull : List StoredBatch → Type 0
IsFull [] = Unit {0}
IsFull (b ∷ bs) = (0 < length b.bytes) × IsFull bs

-- each has records, and begins where the one before it ends
abbrev pub IsRising : ℕ → List StoredBatch → Type 0
IsRising base [] = Unit {0}
IsRising base (b ∷ bs) = (b.base ≡ base) × (0 < b.count) × IsRising (next_offset b) bs
