use Rattle.std.proofs.Common.{◌≡◌, ◌++◌, replicate}
use Rattle.audit.specs.broker.Board.{empty_history}
use Rattle.lone_broker.proofs.opening.put_parts.Given as goal

abbrev pub invariant-loop-number : goal.invariant-loop-number
invariant-loop-number l = l.parts ≡ l.initial.parts ++ replicate l._number (empty_history l.followers)
