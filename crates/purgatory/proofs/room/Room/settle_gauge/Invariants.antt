use Rattle.std.proofs.Common.{◌≡◌}
use Rattle.purgatory.specs.Paying.{Pays}
use Rattle.purgatory.proofs.room.Room.settle_gauge.Given as goal

abbrev pub invariant-loop : goal.invariant-loop
invariant-loop g l = record {
  pays : Pays l.gauge l.initial.owner l.owner;
  keys : l.keys ≡ l.initial.keys;
}
