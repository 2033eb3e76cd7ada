-- What a clause says of a lock and of its passes.
use Rattle.std.specs.Prelude.{◌≡◌, ℕ, List, [], ◌∷◌, slice_get, Some}
use Rattle.atomic_table.specs.Seated.{TableId}
use Rattle.turn_lock.specs.declared.known.Known.{Known}
use Rattle.turn_lock.specs.declared.known.Stage.TheVariants.{Idle}
use Rattle.turn_lock.specs.declared.pass.TurnPass.{TurnPass}
use Rattle.turn_lock.specs.declared.lock.TurnLock.{TurnLock}
use Rattle.turn_lock.specs.Passes.{fresh, at_stage, known_of}

module _ {T E : Type 0} where
  -- which lock it is
  abbrev pub lock_id : TurnLock T E → TableId
  lock_id lock = lock.board.shared.table_id

  abbrev pub lock_name : (T → List ℕ) → TurnLock T E → List ℕ
  lock_name name_of lock = name_of lock.board.shared.key.value.value

  -- how many passes the lock has
  abbrev pub lock_passes : TurnLock T E → ℕ
  lock_passes lock = lock.passes

  -- what the pass knows
  abbrev pub known : TurnPass T E → Known E
  known pass = known_of pass.seat.me.0

  -- the pass was made with this lock, and has its name
  abbrev pub IsPassOf : (T → List ℕ) → TurnLock T E → TurnPass T E → Type 0
  IsPassOf name_of lock pass = (pass.seat.table_id ≡ lock_id lock) × ((known pass).name ≡ lock_name name_of lock)

  -- the pass has no turn out
  abbrev pub IsReady : TurnPass T E → Type 0
  IsReady pass = pass.seat.me ≡ (at_stage Idle (known pass) ∷ [], [])

  -- of the lock's passes, in the order of their numbers, each has seen nothing and added nothing
  abbrev pub AreFresh : TableId → List ℕ → List (TurnPass T E) → Type 0
  AreFresh id name passes = (k : ℕ) (pass : TurnPass T E) → slice_get passes k ≡ Some pass → (pass.seat.table_id ≡ id) × (pass.seat.me ≡ (fresh name k ∷ [], []))
