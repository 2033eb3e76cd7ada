use Rattle.std.proofs.Common.{◌≡◌}
use Rattle.purgatory.specs.Listed.{GoesListing}
use Rattle.purgatory.proofs.room.Room.list_need.Given as goal

abbrev pub invariant-loop : goal.invariant-loop
invariant-loop g l = record {
  goes : GoesListing l.initial.owner l.owner;
  keys : l.keys ≡ l.initial.keys;
}
