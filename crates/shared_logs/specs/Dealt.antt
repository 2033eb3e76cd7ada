-- The locks of new logs, and their passes as they are dealt out.
use Rattle.std.specs.Prelude.{◌≡◌, ℕ, List, [], ◌∷◌, All, Vec, length, map, slice_index}
use Rattle.std.specs.Global.{Global}
use Rattle.turn_lock.specs.declared.lock.TurnLock.{TurnLock}
use Rattle.turn_lock.specs.declared.pass.TurnPass.{TurnPass}
use Rattle.turn_lock.specs.Locks.{known, lock_name, lock_passes}
use Rattle.turn_lock.specs.Passes.{fresh}
use Rattle.shared_logs.specs.declared.entries.ClockEntry.{ClockEntry}
use Rattle.shared_logs.specs.declared.entries.LogEntry.{LogEntry}
use Rattle.shared_logs.specs.Desks.{MomentView, PartView, part_name}
use Rattle.room_core.specs.Gauges.{IsPass}
use Rattle.purgatory.specs.scans.Desks.{desk_name}
use Rattle.room_table.specs.Handed.{fresh_caller, fresh_source}
use Rattle.room_table.specs.Seats.{SourceView, TableView}
use Rattle.purgatory.specs.Making.{AreFrom}
use Rattle.purgatory.specs.Rooms.{LockView, PassView, RoomView, with_locks}
use Rattle.shared_logs.specs.Locked.{lock_of}
use Rattle.shared_logs.specs.Shared.{AreShared, SharedView}

-- the sources of so many gauges, the first ones, in their order
pub record AreFirst (table : TableView) (gauges : ℕ) (sources : List SourceView) : Type 0 where
  pub count : length sources ≡ gauges
  pub each : AreFrom (λ gauge source. source ≡ fresh_source table gauge) 0 sources

-- the lock of the partition of this number, in its room, with so many passes
pub record IsPartLock (table : TableView) (followers : List ℕ) (passes part : ℕ) (lock : TurnLock PartView LogEntry) : Type 0 where
  pub name : lock_name part_name lock ≡ slice_index followers part ∷ desk_name table part
  pub passes_are : lock_passes lock ≡ passes

module _ {T E : Type 0} where
  -- the pass of this number, that has seen nothing
  abbrev pub IsFreshHand : ℕ → TurnPass T E → Type 0
  IsFreshHand number pass = pass.seat.me ≡ (fresh (known pass).name number ∷ [], [])

  -- of this lock
  pub record IsFreshOf (lock : LockView) (number : ℕ) (pass : TurnPass T E) : Type 0 where
    pub lock_is : lock_of pass ≡ lock
    pub fresh_is : IsFreshHand number pass

  -- of each of these locks the pass of this number, that has seen nothing
  pub record IsFreshRow (locks : List LockView) (number : ℕ) (row : Vec (TurnPass T E) Global) : Type 0 where
    pub locks_are : map lock_of row.items ≡ locks
    pub fresh_are : All (IsFreshHand number) row.items

-- the room's pass of this number, as the room is made
pub record IsFreshSeat (room : RoomView) (number : ℕ) (pass : PassView) : Type 0 where
  pub there : IsPass room.table.shape number
  pub is : pass ≡ with_locks room.locks (fresh_caller room.table number)

-- for each pass of the logs, from this number on, its seat, its row of the partitions' locks and its pass of the clock's
pub record AreDealt (shared : SharedView) (first : ℕ) (seats : List PassView) (rows : List (Vec (TurnPass PartView LogEntry) Global))
    (clocks : List (TurnPass MomentView ClockEntry)) : Type 0 where
  pub shared_is : AreShared shared
  pub as_many_rows : length rows ≡ length seats
  pub as_many_clocks : length clocks ≡ length seats
  pub seats_are : AreFrom (IsFreshSeat shared.room) first seats
  pub rows_are : AreFrom (IsFreshRow shared.parts) first rows
  pub clocks_are : AreFrom (IsFreshOf shared.clock) first clocks
