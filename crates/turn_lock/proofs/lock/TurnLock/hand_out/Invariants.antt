use Rattle.std.proofs.Common.{◌≡◌, ◌-◌, [], length}
use Rattle.turn_lock.specs.Locks.{AreFresh, lock_id, lock_name}
use Rattle.turn_lock.specs.Passes.{fresh_from}
use Rattle.turn_lock.proofs.lock.TurnLock.hand_out.Given as goal

abbrev pub invariant-loop-number : goal.invariant-loop-number
invariant-loop-number g l =
    (l.seat.table_id ≡ lock_id l.self)
    × (l.seat.me ≡ (fresh_from (lock_name g.T.Kept.name l.self) l.number (l.self.passes - l.number), []))
    × (length l.all ≡ l.number)
    × AreFresh (lock_id l.self) (lock_name g.T.Kept.name l.self) l.all
