-- What is so of every source.
use Rattle.std.specs.Prelude.{◌≡◌, ℕ, false}
use Rattle.room_core.specs.Gauges.{IsGauge}
use Rattle.room_table.specs.Seats.{SourceView, source_now}

-- its gauge is there, this is what it stored last, and it isn't loud
pub record IsSource (gauge value : ℕ) (seat : SourceView) : Type 0 where
  pub gauge_is : gauge ≡ seat.gauge
  pub there : IsGauge seat.table.shape seat.gauge
  pub stored : (source_now seat).stored ≡ value
  pub quiet : (source_now seat).loud ≡ false
