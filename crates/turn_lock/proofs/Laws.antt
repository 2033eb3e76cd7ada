-- What the proofs of other crates may cite: the passes of a new lock, as they are handed out from the last one on.
use Rattle.std.proofs.Common.{◌≡◌, ℕ, List, [], ◌∷◌, ◌++◌, length, ap}
use Rattle.turn_lock.specs.declared.lock.TurnLock.{TurnLock}
use Rattle.turn_lock.specs.declared.pass.TurnPass.{TurnPass}
use Rattle.turn_lock.specs.Locks.{AreFresh, IsPassOf, IsReady, known, lock_id, lock_name}
use Rattle.turn_lock.specs.Passes.{fresh}
use Rattle.turn_lock.proofs.Rows.{fresh_popped}
use Rattle.turn_lock.proofs.Steps.{known_is, ready}

-- the last pass has no turn out, its number is how many come before it, and those are as before
pub last_is_ready : {T E : Type 0} (name_of : T → List ℕ) (lock : TurnLock T E) (ps qs : List (TurnPass T E)) (p : TurnPass T E)
    → AreFresh (lock_id lock) (lock_name name_of lock) ps → ps ≡ qs ++ p ∷ []
    → AreFresh (lock_id lock) (lock_name name_of lock) qs × IsPassOf name_of lock p × IsReady p × ((known p).number ≡ length qs)
last_is_ready {T} {E} name_of lock ps qs p ones is =
    let name = lock_name name_of lock in
    let popped = fresh_popped (lock_id lock) name ps qs p ones is in
    let same = known_is T E p.seat.me (fresh name (length qs)) [] popped.2 in (
      popped.0,
      (popped.1, ap (λ k. k.name) same),
      ready T E p.seat.me (fresh name (length qs)) popped.2,
      ap (λ k. k.number) same,
    )
