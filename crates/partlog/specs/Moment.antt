-- The clock's moment is the greatest Tick of its history, or 0.
use Rattle.std.specs.Prelude.{ℕ, List, Option, Some, None, max, fold}
use Rattle.std.specs.List.{filter_map}
use Rattle.partlog.specs.declared.clock_event.ClockEvent.{ClockEvent}
use Rattle.partlog.specs.declared.clock_event.ClockEvent.TheVariants.{Tick, Look}

abbrev pub tick_of : ClockEvent → Option ℕ
tick_of (Tick t) = Some t
tick_of (Look by seq) = None

abbrev pub moment_of : List ClockEvent → ℕ
moment_of events = fold max 0 (filter_map tick_of events)
