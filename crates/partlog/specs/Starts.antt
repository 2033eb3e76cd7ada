-- Where the batches of a log begin, which the code keeps to search in.
use Rattle.std.specs.Prelude.{◌≡◌, ℕ, ◌+◌, List, [], ◌∷◌, length, sum_by}
use Rattle.partlog.specs.declared.batch_start.BatchStart.{BatchStart}
use Rattle.partlog.specs.Batches.{StoredBatch}
use Rattle.partlog.specs.Gauges.{bytes_in}
use Rattle.partlog.specs.Rows.{IsFull, IsRising}

-- those of batches of which the first begins at this byte place
abbrev pub starts_from : ℕ → List StoredBatch → List BatchStart
starts_from place [] = []
starts_from place (b ∷ bs) = record { base = b.base; place = place } ∷ starts_from (place + length b.bytes) bs

-- the records of these batches
abbrev pub records_in : List StoredBatch → ℕ
records_in batches = sum_by (λ b. b.count) batches

-- these are the starts of a log's batches, and the next batch will begin here
pub record AreStarts (starts : List BatchStart) (next : BatchStart) (batches : List StoredBatch) : Type 0 where
  pub each : starts ≡ starts_from 0 batches
  pub base : next.base ≡ records_in batches
  pub place : next.place ≡ bytes_in batches
  pub full : IsFull batches
  pub rising : IsRising 0 batches
