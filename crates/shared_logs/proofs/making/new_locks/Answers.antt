use Rattle.std.proofs.Common.{ℕ, List, ◌∙◌, ap, subst}
use Rattle.turn_lock.specs.Locks.{AreFresh, lock_id}
use Rattle.shared_logs.specs.Desks.{moment_name}
use Rattle.shared_logs.proofs.making.new_locks.Goals as goal

pub returns-clause-clock : goal.returns-clause-clock
returns-clause-clock c = (c.in_ok-clock.ensures.lock.0 ∙ ap moment_name c.make-desk.ensures, c.in_ok-clock.ensures.lock.1)

pub returns-clause-clocks : goal.returns-clause-clocks
returns-clause-clocks c = (
  c.in_ok-clock.ensures.passes.0,
  subst (λ (name : List ℕ). AreFresh (lock_id c.in_ok-clock.clock) name c.in_ok-clock.clocks) (ap moment_name c.make-desk.ensures) c.in_ok-clock.ensures.passes.1,
)
