-- The clock's scanner beside the timers of its entries, and what becomes of a pass's.
use Rattle.std.specs.Prelude.{◌≡◌, ◌≢◌, ◌⊎◌, ℕ, ◌<◌, ◌≤◌, Bool, false, not, ◌==◌, List, Option, Some, None, length, slice_index, slice_index_or}
use Rattle.room_core.specs.declared.parts.Duty.{Duty}
use Rattle.room_core.specs.declared.parts.Entry.{Entry}
use Rattle.room_core.specs.declared.parts.Session.{Session}
use Rattle.room_core.specs.Gauges.{IsShape, clock_of}
use Rattle.room_core.specs.Numbers.{clock_scanner, scanner_numbers}
use Rattle.room_table.specs.declared.part.ScannerStep.{ScannerStep}
use Rattle.room_table.specs.Seats.{scanner_did, scanner_now}
use Rattle.timing_wheel.specs.Timers.{deadline_of, ids_of}
use Rattle.purgatory.specs.scans.ClockKeeps.{ClockKeeps}
use Rattle.purgatory.specs.scans.Desks.{ClockView}
use Rattle.purgatory.specs.scans.Going.{GoesOn}
use Rattle.purgatory.specs.scans.Timing.{IsTimed}

-- a pass's entry under the clock, the duty on it, and when its timer comes
abbrev pub entry_at : ClockView → ℕ → Option Entry
entry_at desk pass = (scanner_now desk.seat).listing (clock_of desk.seat.table.shape) pass

abbrev pub duty_at : ClockView → ℕ → Option Duty
duty_at desk pass = (scanner_now desk.seat).duties pass

abbrev pub timer_at : ClockView → ℕ → Option ℕ
timer_at desk pass = deadline_of desk.timers pass

-- the duty on an entry under the clock
abbrev pub duty_on : ClockView → Entry → Duty
duty_on desk entry = record { gauge = clock_of desk.seat.table.shape; generation = entry.generation }

-- Its scanner is the clock's in a room with all scanners, the moment of the timers is the one up to which it has begun to scan the
-- clock, and what is kept by pass is exactly its listing.
pub record IsClockListing (kept : List (Option Entry)) (desk : ClockView) : Type 0 where
  pub shape : IsShape desk.seat.table.shape
  pub scanners : desk.seat.table.shape.scanners ≡ scanner_numbers
  pub number : desk.seat.scanner ≡ clock_scanner
  pub passes : ids_of desk.timers ≡ desk.seat.table.shape.passes
  pub moment : desk.timers.moment ≡ (scanner_now desk.seat).began (clock_of desk.seat.table.shape)
  pub size : length kept ≡ desk.seat.table.shape.passes
  pub each : (pass : ℕ) → entry_at desk pass ≡ slice_index_or kept pass None
  pub own : (gauge pass : ℕ) (entry : Entry) → (scanner_now desk.seat).listing gauge pass ≡ Some entry → gauge ≡ clock_of desk.seat.table.shape
  pub numbered : (pass : ℕ) (entry : Entry) → slice_index_or kept pass None ≡ Some entry → 1 ≤ entry.generation

-- the pass has no duty, and its entry has its timer
pub record IsSettled (pass : ℕ) (desk : ClockView) : Type 0 where
  pub no_duty : duty_at desk pass ≡ None
  pub timed : IsTimed desk.timers.moment (entry_at desk pass) (timer_at desk pass)

-- the pass has an entry whose deadline has come, and which is a duty
pub record IsOnDuty (pass : ℕ) (entry : Entry) (desk : ClockView) : Type 0 where
  pub listed : entry_at desk pass ≡ Some entry
  pub has_come : entry.deadline ≤ desk.timers.moment
  pub no_timer : timer_at desk pass ≡ None
  pub duty : duty_at desk pass ≡ Some (duty_on desk entry)

-- the timer of the pass has come out: if it has an entry, that is a duty exactly where its deadline has come
pub record HasComeOut (pass : ℕ) (desk : ClockView) : Type 0 where
  pub no_timer : timer_at desk pass ≡ None
  pub no_entry : entry_at desk pass ≡ None → duty_at desk pass ≡ None
  pub duty : (entry : Entry) → entry_at desk pass ≡ Some entry → entry.deadline ≤ desk.timers.moment → duty_at desk pass ≡ Some (duty_on desk entry)
  pub no_duty : (entry : Entry) → entry_at desk pass ≡ Some entry → desk.timers.moment < entry.deadline → duty_at desk pass ≡ None

-- the scanner goes on, and nothing of another pass changes
pub record ChangesOnly (pass : ℕ) (old new : ClockView) : Type 0 where
  pub went : GoesOn old.seat new.seat
  pub began : (scanner_now new.seat).began ≡ (scanner_now old.seat).began
  pub moment : new.timers.moment ≡ old.timers.moment
  pub entries : (other : ℕ) → other ≢ pass → entry_at new other ≡ entry_at old other
  pub duties : (other : ℕ) → other ≢ pass → duty_at new other ≡ duty_at old other
  pub timers : (other : ℕ) → other ≢ pass → timer_at new other ≡ timer_at old other

-- the pass was met: its entry stays, or is gone, and the timers stay
pub record WasMet (pass : ℕ) (found : Session) (old new : ClockView) : Type 0 where
  pub step : new.seat ≡ scanner_did old.seat (ScannerStep.Met pass found)
  pub timers : new.timers ≡ old.timers
  pub entry : (entry_at new pass ≡ entry_at old pass) ⊎ (entry_at new pass ≡ None)

-- an entry of another generation than this
abbrev pub is_stale : Option Entry → ℕ → Bool
is_stale None generation = false
is_stale (Some entry) generation = not (entry.generation == generation)

-- the timers of these ids, from a place on, have come out, and all other passes are settled
pub record AreComingFrom (place : ℕ) (ids : List ℕ) (desk : ClockView) : Type 0 where
  pub come : (i : ℕ) → place ≤ i → i < length ids → HasComeOut (slice_index ids i) desk
  pub settled : (pass : ℕ) → ((i : ℕ) → place ≤ i → i < length ids → slice_index ids i ≢ pass) → IsSettled pass desk

-- what the desk keeps, with room for as many due passes as there are timers
pub record HasRoom (desk : ClockView) (room : ℕ) : Type 0 where
  pub keeps : ClockKeeps desk
  pub all : room ≡ ids_of desk.timers
