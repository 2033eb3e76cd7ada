-- Logs: whole batches, one after the other, each with the sum of the counts before it as its base offset (Kafka's record batch v2).
use Rattle.std.specs.Prelude.{◌≡◌, ℕ, ◌+◌, ℤ, pos, List, [], ◌∷◌}
use Rattle.std.specs.Int.{w64}
use Rattle.std.specs.List.{flat_map}
use Rattle.kbatch.specs.Batch.{IsBatch}
use Rattle.kbatch.specs.Kept.{count_of, kept_integer}
use Rattle.kbatch.specs.declared.record.Record.{Record}

-- a batch of some records
abbrev pub IsSomeBatch : List ℕ → Type 0
IsSomeBatch bytes = (records : List Record) × IsBatch bytes records

-- the base offset in a batch's header
abbrev pub base_of : List ℕ → ℤ
base_of bytes = kept_integer w64 0 bytes

-- the first of these batches has this base offset, each later one that at which the one before it ends, and the last ends at that offset
abbrev pub FollowOn : ℕ → List (List ℕ) → ℕ → Type 0
FollowOn from [] end = from ≡ end
FollowOn from (batch ∷ batches) end = IsSomeBatch batch × (base_of batch ≡ pos from) × FollowOn (from + count_of batch) batches end

-- their bytes, one after the other
abbrev pub joined : List (List ℕ) → List ℕ
joined batches = flat_map (λ batch. batch) batches

-- a log from offset 0 to this log end
pub record IsLog (log : List ℕ) (end : ℕ) : Type 0 where
  pub batches : List (List ℕ)
  pub bytes : log ≡ joined batches
  pub each : FollowOn 0 batches end
