-- A batch that a produce sent to a partition.
use Rattle.std.specs.Prelude.{ℕ}
use Rattle.kbatch.specs.Kept.{count_of}
use Rattle.partlog.specs.State.{PartState as State}
use Rattle.kanswer.specs.declared.terms.SentBatch.{SentBatch}
use Rattle.kanswer.specs.Decisions.{Outcome, append_outcome}

-- what becomes of it in the partition with this number
abbrev pub sent_outcome : ℕ → SentBatch → State → Outcome
sent_outcome part sent = append_outcome sent.version sent.least part (count_of sent.batch) sent.batch
