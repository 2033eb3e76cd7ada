-- How the logs and a pass are seen behind their locks.
use Rattle.std.specs.Prelude.{◌≡◌, ℕ, List, All, fold, map, max, slice_index}
use Rattle.partlog.specs.History.{History}
use Rattle.partlog.specs.Moment.{moment_of}
use Rattle.audit.specs.Histories.{ticks_of}
use Rattle.turn_lock.specs.declared.lock.TurnLock.{TurnLock}
use Rattle.turn_lock.specs.declared.pass.TurnPass.{TurnPass}
use Rattle.turn_lock.specs.Locks.{IsReady, known, lock_id, lock_name, lock_passes}
use Rattle.turn_lock.specs.OfPass.{of_pass}
use Rattle.shared_logs.specs.declared.entries.ClockEntry.{ClockEntry}
use Rattle.shared_logs.specs.declared.entries.LogEntry.{LogEntry}
use Rattle.shared_logs.specs.Desks.{MomentView, PartView, moment_name, part_name}
use Rattle.shared_logs.specs.Entries.{clock_by, entry_by}
use Rattle.shared_logs.specs.Histories.{events_of, history_of}
use Rattle.purgatory.specs.Rooms.{LockView, PassView, RoomView}
use Rattle.shared_logs.specs.Seen.{HasSeen}
use Rattle.shared_logs.specs.Shared.{LogPassView, SharedView}

abbrev pub part_lock : TurnLock PartView LogEntry → LockView
part_lock lock = record { id = lock_id lock; name = lock_name part_name lock }

abbrev pub moment_lock : TurnLock MomentView ClockEntry → LockView
moment_lock lock = record { id = lock_id lock; name = lock_name moment_name lock }

abbrev pub shared_view : RoomView → List (TurnLock PartView LogEntry) → TurnLock MomentView ClockEntry → SharedView
shared_view room parts clock = record { room = room; parts = map part_lock parts; clock = moment_lock clock }

-- the lock with which a pass was made
module _ {T E : Type 0} where
  abbrev pub lock_of : TurnPass T E → LockView
  lock_of pass = record { id = pass.seat.table_id; name = (known pass).name }

-- what the pass saw of a partition's history; the followers stand in the lock's name
abbrev pub seen_part : TurnPass PartView LogEntry → History
seen_part pass = history_of (slice_index (known pass).name 0) (known pass).seen

abbrev pub pass_view : ℕ → PassView → List (TurnPass PartView LogEntry) → TurnPass MomentView ClockEntry → LogPassView
pass_view number room parts clock = record {
  number = number;
  made = record { room = record { table = room.seat.table; locks = room.locks }; parts = map lock_of parts; clock = lock_of clock };
  seat = room.seat;
  parts = map seen_part parts;
  clock = events_of (known clock).seen;
  ticked = ticks_of (events_of (known clock).mine);
}

-- the pass of a lock has this number and no turn out, and knows which entries are its own
module _ {T E : Type 0} where
  pub record IsHand (by : E → ℕ) (number : ℕ) (pass : TurnPass T E) : Type 0 where
    pub ready : IsReady pass
    pub number_is : (known pass).number ≡ number
    pub own : of_pass by number (known pass).seen ≡ (known pass).mine

-- Its hands have its number. The moment is that of the clock as it was seen, and `ticked` the greatest whose tick the pass added itself.
pub record IsLogPass (number : ℕ) (room : PassView) (parts : List (TurnPass PartView LogEntry)) (clock : TurnPass MomentView ClockEntry) (moment ticked : ℕ) : Type 0 where
  pub seen : HasSeen (pass_view number room parts clock)
  pub parts_are : All (IsHand entry_by number) parts
  pub clock_is : IsHand clock_by number clock
  pub moment_is : moment ≡ moment_of (events_of (known clock).seen)
  pub ticked_is : ticked ≡ fold max 0 (ticks_of (events_of (known clock).mine))

-- every lock has as many passes as the room
pub record HaveAllPasses (room : RoomView) (parts : List (TurnLock PartView LogEntry)) (clock : TurnLock MomentView ClockEntry) : Type 0 where
  pub parts_have : All (λ (lock : TurnLock PartView LogEntry). lock_passes lock ≡ room.table.shape.passes) parts
  pub clock_has : lock_passes clock ≡ room.table.shape.passes
