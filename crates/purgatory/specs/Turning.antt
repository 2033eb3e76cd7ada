-- Locks and their passes, as views show them.
use Rattle.std.specs.Prelude.{◌≡◌, ℕ, List, [], ◌∷◌, ◌++◌, All, length, map}
use Rattle.turn_lock.specs.declared.known.Stage.{Stage}
use Rattle.turn_lock.specs.declared.lock.TurnLock.{TurnLock}
use Rattle.turn_lock.specs.declared.pass.TurnPass.{TurnPass}
use Rattle.turn_lock.specs.Locks.{IsReady, lock_id, lock_name, known}
use Rattle.room_core.specs.Numbers.{clock_scanner}
use Rattle.purgatory.specs.scans.Desks.{ShardView, ClockView, desk_name}
use Rattle.purgatory.specs.Rooms.{LockView}

-- the names of what stands behind the locks
abbrev pub shard_name : ShardView → List ℕ
shard_name desk = desk_name desk.seat.table desk.seat.scanner

abbrev pub clock_name : ClockView → List ℕ
clock_name desk = desk_name desk.seat.table desk.seat.scanner

abbrev pub name_shown : Stage → List ℕ → List ℕ
name_shown Stage.Idle name = name
name_shown (Stage.Waits ticket) name = []
name_shown (Stage.Has ticket) name = []
name_shown Stage.Late name = []

module _ {T E : Type 0} where
  abbrev pub lock_view : (T → List ℕ) → TurnLock T E → LockView
  lock_view name_of lock = record { id = lock_id lock; name = lock_name name_of lock }

  -- the lock with which a pass was made; a pass that has drawn a ticket shows no name
  abbrev pub key_view : TurnPass T E → LockView
  key_view pass = record { id = pass.seat.table_id; name = name_shown (known pass).stage (known pass).name }

  -- a pass that has drawn no ticket is ready
  abbrev pub IsKey : TurnPass T E → Type 0
  IsKey pass = (known pass).stage ≡ Stage.Idle → IsReady pass

  -- the pass is one of this lock, and has no turn out
  abbrev pub IsKeyOf : LockView → TurnPass T E → Type 0
  IsKeyOf lock pass = (key_view pass ≡ lock) × IsReady pass

  -- the passes are of these locks, one of each, and none has a turn out
  abbrev pub IsKeyring : List LockView → List (TurnPass T E) → Type 0
  IsKeyring locks passes = (map key_view passes ≡ locks) × All IsReady passes

module _ {E F : Type 0} where
  -- the shards' locks, and the clock's
  abbrev pub lock_views : List (TurnLock ShardView E) → TurnLock ClockView F → List LockView
  lock_views shards clock = map (lock_view shard_name) shards ++ lock_view clock_name clock ∷ []

  abbrev pub key_views : List (TurnPass ShardView E) → TurnPass ClockView F → List LockView
  key_views shards clock = map key_view shards ++ key_view clock ∷ []

  -- a pass of each shard's lock and of the clock's
  pub record AreKeys (shards : List (TurnPass ShardView E)) (clock : TurnPass ClockView F) : Type 0 where
    pub all : length shards ≡ clock_scanner
    pub each : All IsKey shards
    pub last : IsKey clock
