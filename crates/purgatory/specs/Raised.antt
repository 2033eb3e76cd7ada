-- A gauge that was raised.
use Rattle.std.specs.Prelude.{◌≡◌, ℕ, ◌≤◌, false}
use Rattle.room_table.specs.Seats.{CallerView, SourceView, caller_now, source_now}
use Rattle.purgatory.specs.Going.{GoesOn, KeepsOperation, OwesElse}

-- the source has stored this value, and isn't loud: somebody has asked for a scan up to it
pub record IsQuietAt (value : ℕ) (old new : SourceView) : Type 0 where
  pub table : new.table ≡ old.table
  pub gauge : new.gauge ≡ old.gauge
  pub stored : (source_now new).stored ≡ value
  pub quiet : (source_now new).loud ≡ false

-- the pass owes a scan of the gauge up to this value, or past it, and no more of other gauges than before
pub record HasRaised (gauge value : ℕ) (old new : CallerView) : Type 0 where
  pub went : GoesOn old new
  pub kept : KeepsOperation (caller_now old) (caller_now new)
  pub owed : value ≤ (caller_now new).owed gauge
  pub others : OwesElse gauge (caller_now old) (caller_now new)
