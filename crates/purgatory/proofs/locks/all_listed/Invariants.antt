use Rattle.std.proofs.Common.{◌≡◌}
use Rattle.purgatory.specs.scans.Going.{GoesOn}
use Rattle.purgatory.proofs.locks.all_listed.Given as goal

abbrev pub invariant-loop-at : goal.invariant-loop-at
invariant-loop-at l = record {
  from : l.turn.from ≡ l.initial.turn.from;
  ticket : l.turn.ticket ≡ l.initial.turn.ticket;
  went : GoesOn l.initial.turn.value.seat l.turn.value.seat;
}
