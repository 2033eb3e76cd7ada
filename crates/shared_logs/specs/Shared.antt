-- What a clause sees of the logs that threads share, and of what a thread has of them.
use Rattle.std.specs.Prelude.{◌≡◌, ℕ, ◌+◌, ◌*◌, ◌<◌, List, ◌∷◌, length, map, slice_index, slice_index_or}
use Rattle.partlog.specs.declared.clock_event.ClockEvent.{ClockEvent}
use Rattle.partlog.specs.History.{History}
use Rattle.room_table.specs.Seats.{CallerView}
use Rattle.purgatory.specs.scans.Desks.{desk_name}
use Rattle.purgatory.specs.Rooms.{LockView, RoomView}

-- the room, the locks of the partitions by their numbers, and that of the clock
pub record SharedView : Type 0 where
  pub room : RoomView
  pub parts : List LockView
  pub clock : LockView

-- how many followers each partition has
abbrev pub followers_in : SharedView → List ℕ
followers_in shared = map (λ (lock : LockView). slice_index lock.name 0) shared.parts

-- A pass: its number, with what it was made, its seat in the room; of each partition's history and of the clock's the front that it saw
-- last; and the moments whose ticks it added, in their order.
pub record LogPassView : Type 0 where
  pub number : ℕ
  pub made : SharedView
  pub seat : CallerView
  pub parts : List History
  pub clock : List ClockEvent
  pub ticked : List ℕ

-- what is so of all shared logs: the room has the three gauges of each partition, and the clock's as the last; each lock has the name
-- of its desk
pub record AreShared (shared : SharedView) : Type 0 where
  pub gauges : shared.room.table.shape.gauges ≡ 3 * length shared.parts + 1
  pub parts : (part : ℕ) (lock : LockView) → part < length shared.parts
      → (slice_index_or shared.parts part lock).name ≡ slice_index (followers_in shared) part ∷ desk_name shared.room.table part
  pub clock : shared.clock.name ≡ desk_name shared.room.table (3 * length shared.parts)
