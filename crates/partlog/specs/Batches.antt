-- The batches of a history are those of its Append entries, in order, the k-th being the next `len` bytes of the log.
-- A batch's base offset is the sum of the counts before it (Kafka's record batch v2, `baseOffset`).
use Rattle.std.specs.Prelude.{ℕ, ◌+◌, List, [], ◌∷◌, ◌++◌, take, drop}
use Rattle.partlog.specs.declared.event.PartEvent.{PartEvent}
use Rattle.partlog.specs.declared.event.PartEvent.TheVariants.{Append, Follow, Look, Shrink}
use Rattle.partlog.specs.Added.{log_end_of}

-- a batch as it stands in a log
pub record StoredBatch : Type 0 where
  pub base : ℕ
  pub count : ℕ
  pub bytes : List ℕ

-- the offset after its last record
abbrev pub next_offset : StoredBatch → ℕ
next_offset b = b.base + b.count

-- those of the entries that follow the ones before, from the bytes that are left of the log
abbrev pub batches_after : List PartEvent → List PartEvent → List ℕ → List StoredBatch
batches_after before [] log = []
batches_after before (Append by seq count len ∷ events) log =
    record { base = log_end_of before; count = count; bytes = take len log } ∷ batches_after (before ++ Append by seq count len ∷ []) events (drop len log)
batches_after before (Follow by seq replica offset t ∷ events) log = batches_after (before ++ Follow by seq replica offset t ∷ []) events log
batches_after before (Look by seq ∷ events) log = batches_after (before ++ Look by seq ∷ []) events log
batches_after before (Shrink by replica t ∷ events) log = batches_after (before ++ Shrink by replica t ∷ []) events log

abbrev pub batches_of : List PartEvent → List ℕ → List StoredBatch
batches_of events log = batches_after [] events log
