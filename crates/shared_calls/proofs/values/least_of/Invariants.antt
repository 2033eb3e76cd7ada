use Rattle.std.proofs.Common.{◌≡◌, ℕ, ◌<◌, ◌≤◌, get_or}
use Rattle.opcond.specs.declared.need.Need.{Need}
use Rattle.shared_calls.proofs.values.least_of.Given as goal

abbrev pub invariant-loop-at : goal.invariant-loop-at
invariant-loop-at l = (i : ℕ) (need : Need) → i < l.at → (get_or l.needs i need).gauge ≡ l.gauge → get_or l.values i 0 ≤ l.least
