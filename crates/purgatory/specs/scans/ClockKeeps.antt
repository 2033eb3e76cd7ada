-- What the clock's desk keeps between any two calls.
use Rattle.std.specs.Prelude.{◌≡◌, ℕ, Some}
use Rattle.room_core.specs.declared.parts.Entry.{Entry}
use Rattle.room_core.specs.declared.shape.Shape.{Shape}
use Rattle.room_core.specs.Gauges.{IsShape, clock_of}
use Rattle.room_core.specs.Numbers.{clock_scanner, scanner_numbers}
use Rattle.room_core.specs.Scans.{HasNoDuty}
use Rattle.room_core.specs.State.{Scanner}
use Rattle.room_table.specs.Seats.{scanner_now}
use Rattle.timing_wheel.specs.Timers.{Timers, deadline_of, ids_of}
use Rattle.purgatory.specs.scans.Desks.{ClockView}
use Rattle.purgatory.specs.scans.Timing.{IsTimed}

-- the timers are those of the entries under the clock, by pass, and the scanner has no other entries
pub record AreTimersOf (shape : Shape) (scanner : Scanner) (timers : Timers) : Type 0 where
  pub each : (pass : ℕ) → IsTimed timers.moment (scanner.listing (clock_of shape) pass) (deadline_of timers pass)
  pub own : (gauge pass : ℕ) (entry : Entry) → scanner.listing gauge pass ≡ Some entry → gauge ≡ clock_of shape

-- Its scanner is the clock's in a room with all scanners. The moment of the timers is the one up to which the scanner has begun to
-- scan the clock. There is a timer for exactly those of the listing's entries whose deadline is past that moment, and it comes no later
-- than the deadline. The scanner has no duty.
pub record ClockKeeps (desk : ClockView) : Type 0 where
  pub shape : IsShape desk.seat.table.shape
  pub scanners : desk.seat.table.shape.scanners ≡ scanner_numbers
  pub number : desk.seat.scanner ≡ clock_scanner
  pub passes : ids_of desk.timers ≡ desk.seat.table.shape.passes
  pub moment : desk.timers.moment ≡ (scanner_now desk.seat).began (clock_of desk.seat.table.shape)
  pub timers : AreTimersOf desk.seat.table.shape (scanner_now desk.seat) desk.timers
  pub no_duty : HasNoDuty (scanner_now desk.seat)
