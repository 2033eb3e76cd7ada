use Rattle.std.proofs.Common.{◌≡◌, List, [], ◌++◌, map, length}
use Rattle.turn_lock.specs.declared.pass.TurnPass.{TurnPass}
use Rattle.turn_lock.specs.Locks.{known, lock_id}
use Rattle.turn_lock.proofs.lock.TurnLock.gather.Given as goal

abbrev pub invariant-loop-pass : goal.invariant-loop-pass
invariant-loop-pass g l =
    (behind : List (TurnPass g.row.T.Denot g.row.T-Entry.Denot))
    × (l.fn.passes ≡ l.passes ++ behind)
    × (l.all.table_id ≡ lock_id l.self)
    × (l.all.me ≡ (map known behind, []))

abbrev pub decreases-loop-pass : goal.decreases-loop-pass
decreases-loop-pass g l = length l.passes
