-- A pass of a lock with its number.
use Rattle.std.specs.Prelude.{◌≡◌, ◌^◌, ◌<◌, ℕ, [], ◌∷◌}
use Rattle.turn_lock.specs.declared.lock.TurnLock.{TurnLock}
use Rattle.turn_lock.specs.Locks.{IsPassOf, IsReady, known}
use Rattle.tests_of_libraries.specs.declared.turn_examples.NumberedPass.{NumberedPass}
use Rattle.tests_of_libraries.specs.declared.turn_examples.Numbers.{Numbers}

-- the pass is the lock's, has no turn out, and this is its number
pub record IsNumbered (lock : TurnLock Numbers ℕ) (one : NumberedPass) : Type 0 where
  pub number : (known one.pass).number ≡ one.number
  pub few : one.number < 2 ^ 32
  pub made : IsPassOf (λ (n : Numbers). n.series ∷ []) lock one.pass
  pub ready : IsReady one.pass
