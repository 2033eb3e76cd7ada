-- What a clause sees of the desks, and their names.
use Rattle.std.specs.Prelude.{ℕ, List, ◌∷◌}
use Rattle.partlog.specs.declared.clock_event.ClockEvent.{ClockEvent}
use Rattle.partlog.specs.History.{History}
use Rattle.room_table.specs.Seats.{SourceView}
use Rattle.purgatory.specs.scans.Desks.{desk_name}
use Rattle.shared_logs.specs.declared.sources.PartSources.{PartSources}

-- a partition: its history, its number, and the sources of its gauges
pub record PartView : Type 0 where
  pub history : History
  pub part : ℕ
  pub sources : PartSources

-- the clock: its history, the passes that added its ticks, one for each in order, and its source
pub record MomentView : Type 0 where
  pub events : List ClockEvent
  pub tickers : List ℕ
  pub source : SourceView

-- the partition's number of followers, its own number, and the room's table, as numbers
abbrev pub part_name : PartView → List ℕ
part_name desk = desk.history.followers ∷ desk_name desk.sources.high.table desk.part

-- the number of the clock's gauge, and the room's table
abbrev pub moment_name : MomentView → List ℕ
moment_name desk = desk_name desk.source.table desk.source.gauge
