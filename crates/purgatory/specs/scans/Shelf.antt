-- A shard beside its scanner's listing.
use Rattle.std.specs.Prelude.{◌≡◌, ◌≢◌, ℕ, ◌<◌, ◌≤◌, if◌then◌else◌, List, Some, None, length, slice_get, slice_index}
use Rattle.room_core.specs.declared.parts.Duty.{Duty}
use Rattle.room_core.specs.declared.parts.Session.{Session}
use Rattle.room_core.specs.Gauges.{IsShape}
use Rattle.room_core.specs.Meetings.{is_open}
use Rattle.room_core.specs.Numbers.{clock_scanner, scanner_numbers, shard_gauges}
use Rattle.room_core.specs.State.{Scanner}
use Rattle.room_table.specs.Seats.{scanner_now}
use Rattle.watch_lists.specs.declared.watch.Watch.{Watch}
use Rattle.watch_lists.specs.Watches.{Watches, IsListed, keys_of, row_of}
use Rattle.purgatory.specs.scans.Desks.{ShardView}
use Rattle.purgatory.specs.scans.ShardKeeps.{AreEntries}
use Rattle.purgatory.specs.scans.Going.{GoesOn}

-- the generation at which a session word is open, and 0 where it isn't
abbrev pub open_generation : Session → ℕ
open_generation session = if is_open session.phase then session.generation else 0

-- Its scanner is a shard's in a room with all scanners, and the shard's entries are exactly the scanner's listing. The entries of a
-- pass have one generation, which is the one that is kept.
pub record IsShelf (generations : List ℕ) (desk : ShardView) : Type 0 where
  pub shape : IsShape desk.seat.table.shape
  pub scanners : desk.seat.table.shape.scanners ≡ scanner_numbers
  pub number : desk.seat.scanner < clock_scanner
  pub passes : desk.watches.ids ≡ desk.seat.table.shape.passes
  pub keys : keys_of desk.watches ≡ shard_gauges
  pub kept : length generations ≡ desk.seat.table.shape.passes
  pub entries : AreEntries desk.seat.table.shape desk.seat.scanner (IsListed desk.watches) (scanner_now desk.seat)
  pub one : (key pass generation : ℕ) → IsListed desk.watches key pass generation → (generation ≡ slice_index generations pass) × (1 ≤ generation)

-- the watchers of lower ids stay in their places
abbrev pub KeepsLower : ℕ → Watches → Watches → Type 0
KeepsLower id old new = (key place : ℕ) (watch : Watch) → slice_get (row_of old key) place ≡ Some watch → watch.id < id → slice_get (row_of new key) place ≡ Some watch

-- the duty on a pass is gone, and no other
pub record IsFreed (pass : ℕ) (old new : Scanner) : Type 0 where
  pub gone : new.duties pass ≡ None
  pub others : (other : ℕ) → other ≢ pass → new.duties other ≡ old.duties other

-- a watcher was checked: its duty is gone
pub record WasChecked (id : ℕ) (old new : ShardView) : Type 0 where
  pub went : GoesOn old.seat new.seat
  pub began : (scanner_now new.seat).began ≡ (scanner_now old.seat).began
  pub freed : IsFreed id (scanner_now old.seat) (scanner_now new.seat)
  pub lower : KeepsLower id old.watches new.watches

-- a watcher that is checked is a duty still
pub record IsAtCheck (gauge id generation : ℕ) (old new : ShardView) : Type 0 where
  pub went : GoesOn old.seat new.seat
  pub began : (scanner_now new.seat).began ≡ (scanner_now old.seat).began
  pub duty : (scanner_now new.seat).duties id ≡ Some (record { gauge = gauge; generation = generation })
  pub others : (other : ℕ) → other ≢ id → (scanner_now new.seat).duties other ≡ (scanner_now old.seat).duties other
  pub lower : KeepsLower id old.watches new.watches

-- a key has its watchers below this place
abbrev pub AreAllBelow : ℕ → ℕ → Watches → Type 0
AreAllBelow key count watches = (place : ℕ) (watch : Watch) → slice_get (row_of watches key) place ≡ Some watch → place < count

-- the scanner's duties are on the first watchers of the gauge, and on no others
pub record AreDutiesBelow (gauge key count : ℕ) (watches : Watches) (scanner : Scanner) : Type 0 where
  pub each : (place : ℕ) (watch : Watch) → place < count → slice_get (row_of watches key) place ≡ Some watch
      → scanner.duties watch.id ≡ Some (record { gauge = gauge; generation = watch.generation })
  pub only : (pass : ℕ) (duty : Duty) → scanner.duties pass ≡ Some duty
      → (place : ℕ) × (place < count) × (slice_get (row_of watches key) place ≡ Some (record { key = key; id = pass; generation = duty.generation }))
