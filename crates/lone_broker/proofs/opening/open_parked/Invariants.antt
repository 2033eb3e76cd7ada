use Rattle.std.proofs.Common.{◌≡◌, None, replicate}
use Rattle.lone_broker.proofs.opening.open_parked.Given as goal

abbrev pub invariant-loop-number : goal.invariant-loop-number
invariant-loop-number l = l.parked ≡ replicate l._number None
