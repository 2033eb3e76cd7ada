-- What can be read off a partition's state as numbers.
use Rattle.std.specs.Prelude.{ℕ, List, length, filter, sum_by, nat_le}
use Rattle.partlog.specs.declared.numbers.Numbers.{Numbers}
use Rattle.partlog.specs.Batches.{StoredBatch, next_offset}
use Rattle.partlog.specs.State.{PartState}

-- the bytes of these batches
abbrev pub bytes_in : List StoredBatch → ℕ
bytes_in batches = sum_by (λ b. length b.bytes) batches

-- the batches wholly below an offset
abbrev pub batches_below : ℕ → List StoredBatch → List StoredBatch
batches_below offset batches = filter (λ b. nat_le (next_offset b) offset) batches

-- The high watermark, the visible bytes, which are those of the batches wholly below it, and the end bytes, which are
-- those of all batches.
pub record Gauges : Type 0 where
  pub high : ℕ
  pub visible : ℕ
  pub bytes : ℕ

abbrev pub gauges_of : PartState → Gauges
gauges_of s = record {
  high = s.high;
  visible = bytes_in (batches_below s.high s.batches);
  bytes = bytes_in s.batches;
}

-- the log end, the gauges, and how many replicas are in sync
abbrev pub numbers_of : PartState → Numbers
numbers_of s = record { end = s.log_end; high = (gauges_of s).high; visible = (gauges_of s).visible; bytes = (gauges_of s).bytes; insync = s.insync }
