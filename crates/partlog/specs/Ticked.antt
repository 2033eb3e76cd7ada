-- The clock's history after it was told a moment: an entry more where the moment rose, and else as it was.
use Rattle.std.specs.Prelude.{ℕ, List, [], ◌∷◌, ◌++◌, nat_lt, if◌then◌else◌}
use Rattle.partlog.specs.declared.clock_event.ClockEvent.{ClockEvent}
use Rattle.partlog.specs.declared.clock_event.ClockEvent.TheVariants.{Tick}
use Rattle.partlog.specs.Moment.{moment_of}

abbrev pub ticked : List ClockEvent → ℕ → List ClockEvent
ticked events t = if nat_lt (moment_of events) t then events ++ Tick t ∷ [] else events
