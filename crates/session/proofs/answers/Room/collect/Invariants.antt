use Rattle.std.proofs.Common.{◌≡◌, ◌≤◌}
use Rattle.session.specs.Answering.{HasOnlyLooked}
use Rattle.session.proofs.answers.Room.collect.Given as goal

abbrev pub invariant-loop : goal.invariant-loop
invariant-loop g l = record {
  looked : HasOnlyLooked l.seat.told l.initial.pass l.pass;
  seat : l.seat.made ≡ l.initial.seat.made;
  later : l.initial.seat.told ≤ l.seat.told;
}
