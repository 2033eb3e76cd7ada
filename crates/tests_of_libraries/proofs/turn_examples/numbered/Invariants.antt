use Rattle.std.proofs.Common.{◌≡◌, ◌+◌, [], ◌∷◌, length}
use Rattle.std.specs.Prelude.{All}
use Rattle.turn_lock.specs.Locks.{lock_id, lock_name, AreFresh}
use Rattle.tests_of_libraries.specs.Numbered.{IsNumbered}
use Rattle.tests_of_libraries.proofs.turn_examples.numbered.Given as goal

abbrev pub invariant-loop-pass : goal.invariant-loop-pass
invariant-loop-pass l =
    (length l.passes + length l.all.items ≡ length l.fn.passes)
    × AreFresh (lock_id l.lock) (lock_name (λ n. n.series ∷ []) l.lock) l.passes
    × All (IsNumbered l.lock) l.all.items

abbrev pub decreases-loop-pass : goal.decreases-loop-pass
decreases-loop-pass l = length l.passes
