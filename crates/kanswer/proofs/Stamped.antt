-- A batch keeps its length where its base offset is written into it.
use Rattle.std.proofs.Common.{◌≡◌, ℕ, List, length, sym, subst}
use Rattle.kbatch.specs.declared.record.Record.{Record}
use Rattle.kbatch.specs.Batch.{IsBatch}
use Rattle.kbatch.specs.Record.{records_from}
use Rattle.kbatch.specs.Stamp.{stamped}
use Rattle.kbatch.proofs.Laws.{stamped_len}

pub batch_sized : (bytes : List ℕ) (records : List Record) → IsBatch bytes records → (base : ℕ) → length (stamped base bytes) ≡ length bytes
batch_sized bytes records b base =
    let P : List ℕ → Type 0 = λ bs. length (stamped base bs) ≡ length bs in
    subst P (sym b.parts) (stamped_len base b.head (records_from 0 records))
