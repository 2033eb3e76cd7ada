use Rattle.purgatory.specs.Rooms.{IsOfRoom, IsSourceOf}
use Rattle.two_warehouses.proofs.deliver.Given as goal

abbrev pub invariant-loop : goal.invariant-loop
invariant-loop g l = record {
  pass : IsOfRoom l.room l.pass;
  first : IsSourceOf l.room l.first;
  second : IsSourceOf l.room l.second;
}
