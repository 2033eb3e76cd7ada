-- What a clause sees of the room and of its passes.
use Rattle.std.specs.Prelude.{◌≡◌, ℕ, ◌+◌, ◌<◌, List, map, length, slice_index_or}
use Rattle.atomic_table.specs.Seated.{TableId}
use Rattle.room_core.specs.declared.shape.Shape.{Shape}
use Rattle.room_core.specs.Gauges.{IsShape}
use Rattle.room_core.specs.Numbers.{scanner_numbers}
use Rattle.room_table.specs.Handed.{fresh_callers}
use Rattle.room_table.specs.Seats.{TableView, SourceView, CallerView}
use Rattle.purgatory.specs.scans.Desks.{desk_name}

-- which lock it is, and its name
pub record LockView : Type 0 where
  pub id : TableId
  pub name : List ℕ

-- the room's words, and its locks by the numbers of the scanners behind them; the clock's is the last
pub record RoomView : Type 0 where
  pub table : TableView
  pub locks : List LockView

-- a pass's seat, and the locks with which it was made
pub record PassView : Type 0 where
  pub seat : CallerView
  pub locks : List LockView

-- pass and room were made together
pub record IsOfRoom (room : RoomView) (pass : PassView) : Type 0 where
  pub table : pass.seat.table ≡ room.table
  pub locks : pass.locks ≡ room.locks

-- so were source and room
abbrev pub IsSourceOf : RoomView → SourceView → Type 0
IsSourceOf room source = source.table ≡ room.table

-- each scanner has a lock, whose name is that of the scanner's desk
pub record AreNamed (table : TableView) (locks : List LockView) : Type 0 where
  pub all : length locks ≡ scanner_numbers
  pub each : (k : ℕ) (lock : LockView) → k < scanner_numbers → (slice_index_or locks k lock).name ≡ desk_name table k

-- what is so of every room: it has all scanners, and a lock for each
pub record IsRoom (table : TableView) (locks : List LockView) : Type 0 where
  pub shape : IsShape table.shape
  pub scanners : table.shape.scanners ≡ scanner_numbers
  pub named : AreNamed table locks

-- how many may win: the scanners, and then the passes
abbrev pub winners : TableView → ℕ
winners table = scanner_numbers + table.shape.passes

-- the shape of a room with so many gauges and passes
abbrev pub room_shape : ℕ → ℕ → Shape
room_shape gauges passes = record { gauges = gauges; passes = passes; scanners = scanner_numbers }

-- a pass with these locks
abbrev pub with_locks : List LockView → CallerView → PassView
with_locks locks seat = record { seat = seat; locks = locks }

-- the passes of a new room, in the order of their numbers: none has made a step
abbrev pub fresh_passes : RoomView → List PassView
fresh_passes room = map (with_locks room.locks) (fresh_callers room.table)
