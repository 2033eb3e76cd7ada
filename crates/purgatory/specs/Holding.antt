-- The turns of all locks, held together.
use Rattle.std.specs.Prelude.{◌≡◌, ℕ, ◌+◌, ◌<◌, ◌≤◌, List, [], All, length, map, slice_index, slice_index_or, ⊤}
use Rattle.turn_lock.specs.declared.pass.TurnPass.{TurnPass}
use Rattle.room_core.specs.Numbers.{clock_scanner, scanner_numbers}
use Rattle.purgatory.specs.scans.Desks.{ClockView, ShardView}
use Rattle.room_table.specs.Closing.{ClosingView}
use Rattle.room_table.specs.Seats.{ScanView, TableView}
use Rattle.purgatory.specs.declared.holding.Held.{Held}
use Rattle.purgatory.specs.Ends.{IsScannerSeat, won_by_scanners}
use Rattle.purgatory.specs.Making.{AreFrom}
use Rattle.purgatory.specs.Noted.{IsNoted}
use Rattle.purgatory.specs.Rooms.{LockView}
use Rattle.purgatory.specs.Turning.{IsKey, key_view}

-- the seats of the scanners from this number on, and what they have won noted
pub record AreHeld (table : TableView) (first : ℕ) (numbers : List ℕ) (seats : List ScanView) : Type 0 where
  pub all : first + length seats ≡ scanner_numbers
  pub each : AreFrom (IsScannerSeat table) first seats
  pub noted : AreFrom (IsNoted numbers) first seats

-- the table, with the seats of these scanners back
abbrev pub with_seats : TableView → List ScanView → ClosingView
with_seats table seats = record { table = table; sources = []; callers = []; scanners = seats }

-- With what was won before, more was won than taken; or no more was, and the seats are back.
abbrev pub IsHeldFor : TableView → ℕ → ℕ → List ScanView → Held → Type 0
IsHeldFor table won taken seats (Held.Untaken again) = (again ≡ table) × (taken < won + won_by_scanners seats)
IsHeldFor table won taken seats (Held.Still closing) = (closing ≡ with_seats table seats) × (won + won_by_scanners seats ≤ taken)

-- the turns of the scanners from this number on were held together, and what they have won was compared with what was taken
pub record WereHeld (table : TableView) (first won taken : ℕ) (numbers : List ℕ) (held : Held) : Type 0 where
  pub seats : List ScanView
  pub are_held : AreHeld table first numbers seats
  pub ended : IsHeldFor table won taken seats held

-- the numbers below this place are as they were
pub record AreNotedFrom (first : ℕ) (old new : List ℕ) : Type 0 where
  pub size : length new ≡ length old
  pub below : (k : ℕ) → k < first → slice_index new k ≡ slice_index old k

-- where the turns were ended
abbrev pub IfUntaken : Held → Type 0 → Type 0
IfUntaken (Held.Untaken table) fact = fact
IfUntaken (Held.Still closing) fact = ⊤

module _ {E : Type 0} where
  -- from this place on the passes are of these locks, and have no turn out
  pub record AreKeysFrom (first : ℕ) (locks : List LockView) (keys : List (TurnPass ShardView E)) : Type 0 where
    pub all : length keys ≡ clock_scanner
    pub each : All IsKey keys
    pub views : (k : ℕ) (key : TurnPass ShardView E) (lock : LockView) → first ≤ k → k < clock_scanner → key_view (slice_index_or keys k key) ≡ slice_index_or locks k lock

  -- the passes below this place are as they were
  pub record AreKept (first : ℕ) (old new : List (TurnPass ShardView E)) : Type 0 where
    pub all : length new ≡ clock_scanner
    pub each : All IsKey new
    pub below : (k : ℕ) (key : TurnPass ShardView E) → k < first → slice_index_or new k key ≡ slice_index_or old k key

  -- a pass of the clock's lock that has no turn out
  pub record IsClockKey (locks : List LockView) (key : TurnPass ClockView E) : Type 0 where
    pub is_key : IsKey key
    pub view : (lock : LockView) → key_view key ≡ slice_index_or locks clock_scanner lock

  -- the passes show what they did
  pub record AreBack (old new : List (TurnPass ShardView E)) (before after : TurnPass ClockView E) : Type 0 where
    pub shards : map key_view new ≡ map key_view old
    pub clock : key_view after ≡ key_view before
