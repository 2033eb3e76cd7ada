-- How a room ends: what its winners won, and of how much its passes have taken the end.
use Rattle.std.specs.Prelude.{◌≡◌, ℕ, ◌+◌, ◌≤◌, ◌<◌, Any, List, length, map, sum_by}
use Rattle.room_core.specs.declared.parts.Stage.TheVariants.{Waiting}
use Rattle.room_core.specs.Numbers.{scanner_numbers}
use Rattle.room_core.specs.Scans.{HasNoDuty}
use Rattle.room_table.specs.Seats.{CallerView, ScanView, TableView, caller_now, scanner_now}
use Rattle.purgatory.specs.Making.{AreFrom}
use Rattle.purgatory.specs.Going.{OwesNothing}
use Rattle.purgatory.specs.Rooms.{IsOfRoom, PassView, RoomView}

-- how many exchanges the scanners won, and the passes
abbrev pub won_by_scanners : List ScanView → ℕ
won_by_scanners seats = sum_by (λ (seat : ScanView). length (scanner_now seat).wins) seats

abbrev pub won_by_passes : List CallerView → ℕ
won_by_passes seats = sum_by (λ (seat : CallerView). length (caller_now seat).wins) seats

abbrev pub exchanges_of : List ScanView → List CallerView → ℕ
exchanges_of scanners callers = won_by_scanners scanners + won_by_passes callers

-- of how many operations the passes have taken the end
abbrev pub taken_of : List CallerView → ℕ
taken_of seats = sum_by (λ (seat : CallerView). length (caller_now seat).taken) seats

abbrev pub seats_of : List PassView → List CallerView
seats_of passes = map (λ (pass : PassView). pass.seat) passes

-- the pass's operation waits
abbrev pub IsWaiting : PassView → Type 0
IsWaiting pass = (caller_now pass.seat).stage ≡ Waiting

-- a pass of the room that owes nothing
pub record IsSettled (room : RoomView) (pass : PassView) : Type 0 where
  pub made : IsOfRoom room pass
  pub paid : OwesNothing (caller_now pass.seat)

-- the seat of the table's scanner of this number, which has no duty
pub record IsScannerSeat (table : TableView) (k : ℕ) (seat : ScanView) : Type 0 where
  pub table_is : seat.table ≡ table
  pub number : seat.scanner ≡ k
  pub no_duty : HasNoDuty (scanner_now seat)

-- a seat of each scanner of the table, by their numbers
pub record AreAllScanners (table : TableView) (seats : List ScanView) : Type 0 where
  pub all : length seats ≡ scanner_numbers
  pub each : AreFrom (IsScannerSeat table) 0 seats

-- what a contract sees of a room that nobody can act on any more: the seats of its passes and of its scanners
pub record StillView : Type 0 where
  pub table : TableView
  pub callers : List CallerView
  pub scanners : List ScanView

-- The seats are those of these passes and of all scanners. No more was won than was taken.
pub record IsStill (room : RoomView) (passes : List PassView) (still : StillView) : Type 0 where
  pub table : still.table ≡ room.table
  pub callers : still.callers ≡ seats_of passes
  pub scanners : AreAllScanners room.table still.scanners
  pub taken : exchanges_of still.scanners still.callers ≤ taken_of still.callers

-- More was won than these passes have taken, and one of them waits.
pub record IsUntaken (room : RoomView) (passes : List PassView) : Type 0 where
  pub seats : List ScanView
  pub scanners : AreAllScanners room.table seats
  pub more : taken_of (seats_of passes) < exchanges_of seats (seats_of passes)
  pub waits : Any IsWaiting passes
