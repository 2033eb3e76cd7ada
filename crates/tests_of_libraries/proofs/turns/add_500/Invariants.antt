use Rattle.std.proofs.Common.{◌≡◌, [], ◌∷◌}
use Rattle.turn_lock.specs.Locks.{known, IsPassOf, IsReady}
use Rattle.tests_of_libraries.proofs.turns.add_500.Given as goal

abbrev pub invariant-loop-at : goal.invariant-loop-at
invariant-loop-at g l = ((known l.pass).number ≡ l.number) × IsPassOf (λ n. n.series ∷ []) l.lock l.pass × IsReady l.pass
