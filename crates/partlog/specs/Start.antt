-- Where reading from an offset begins: the byte place of the first batch whose last offset is at least this one.
use Rattle.std.specs.Prelude.{ℕ}
use Rattle.partlog.specs.State.{PartState}
use Rattle.partlog.specs.Gauges.{bytes_in, batches_below}

abbrev pub start_of : ℕ → PartState → ℕ
start_of offset state = bytes_in (batches_below offset state.batches)
