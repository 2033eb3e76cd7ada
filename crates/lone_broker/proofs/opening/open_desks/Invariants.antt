use Rattle.std.proofs.Common.{◌≡◌, replicate}
use Rattle.audit.specs.broker.Board.{empty_seat}
use Rattle.lone_broker.proofs.opening.open_desks.Given as goal

abbrev pub invariant-loop-number : goal.invariant-loop-number
invariant-loop-number l = l.desks ≡ replicate l._number empty_seat
