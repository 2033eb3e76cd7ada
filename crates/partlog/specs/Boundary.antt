-- A byte place where a batch ends and the next one may begin: the sum of the lengths of a front of the batches.
use Rattle.std.specs.Prelude.{◌≡◌, ℕ, List, take}
use Rattle.partlog.specs.Batches.{StoredBatch}
use Rattle.partlog.specs.Gauges.{bytes_in}

abbrev pub IsBoundary : ℕ → List StoredBatch → Type 0
IsBoundary place batches = (front : ℕ) × (place ≡ bytes_in (take front batches))
