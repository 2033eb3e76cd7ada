-- What these batches of a log show of a state. Up to its visible bytes they are the batches wholly below its high
-- watermark, and up to its end bytes they are all of its batches; so also from any place on.
use Rattle.std.specs.Prelude.{◌≡◌, ℕ, List}
use Rattle.partlog.specs.Batches.{StoredBatch}
use Rattle.partlog.specs.State.{PartState}
use Rattle.partlog.specs.Gauges.{gauges_of, batches_below}
use Rattle.partlog.specs.Taken.{batches_past, batches_upto}

pub record IsReadable (batches : List StoredBatch) (state : PartState) : Type 0 where
  pub visible : (start : ℕ) → batches_past start (batches_upto (gauges_of state).visible batches) ≡ batches_below (gauges_of state).high (batches_past start state.batches)
  pub all : (start : ℕ) → batches_past start (batches_upto (gauges_of state).bytes batches) ≡ batches_past start state.batches
