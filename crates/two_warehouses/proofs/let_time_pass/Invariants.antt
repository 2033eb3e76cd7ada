use Rattle.purgatory.specs.Rooms.{IsOfRoom, IsSourceOf}
use Rattle.two_warehouses.proofs.let_time_pass.Given as goal

abbrev pub invariant-loop : goal.invariant-loop
invariant-loop g l = record {
  pass : IsOfRoom l.room l.pass;
  clock : IsSourceOf l.room l.clock;
}
