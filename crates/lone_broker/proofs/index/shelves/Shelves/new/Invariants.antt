use Rattle.std.proofs.Common.{◌≡◌, length}
use Rattle.lone_broker.proofs.index.Listings.{AreFresh}
use Rattle.lone_broker.proofs.index.shelves.Shelves.new.Given as goal

abbrev pub invariant-loop-at : goal.invariant-loop-at
invariant-loop-at l = record {
  long : length l.shards.items ≡ l._at;
  fresh : AreFresh l.shards.items;
}
