use Rattle.two_warehouses.specs.Ready.{IsParked}
use Rattle.two_warehouses.proofs.end_of.Given as goal

abbrev pub invariant-loop : goal.invariant-loop
invariant-loop g l = IsParked l.room l.pass
