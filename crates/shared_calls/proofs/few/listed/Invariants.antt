use Rattle.std.proofs.Common.{◌≡◌, ◌++◌}
use Rattle.std.specs.Vec.Iter.{into_iter_items}
use Rattle.shared_calls.proofs.few.listed.Given as goal

abbrev pub invariant-loop-item : goal.invariant-loop-item
invariant-loop-item g l = record {
  list : l.list ≡ l.yielded;
  whole : l.yielded ++ into_iter_items l.item-iterator ≡ l.fn.items.items;
}
