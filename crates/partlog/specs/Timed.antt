-- What the code keeps of the clock beside its history: the moment, which no one may set above the limit.
use Rattle.std.specs.Prelude.{◌≡◌, ℕ, ◌≤◌, List}
use Rattle.partlog.specs.declared.clock_event.ClockEvent.{ClockEvent}
use Rattle.partlog.specs.declared.clock_event.TheConstants.{MOST_MOMENT}
use Rattle.partlog.specs.Moment.{moment_of}

pub record IsTimed (events : List ClockEvent) (now : ℕ) : Type 0 where
  pub moment : now ≡ moment_of events
  pub bounded : moment_of events ≤ MOST_MOMENT
