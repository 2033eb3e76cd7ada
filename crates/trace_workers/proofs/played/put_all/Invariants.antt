use Rattle.std.proofs.Common.{◌≡◌, ◌++◌}
use Rattle.std.specs.Vec.Iter.{into_iter_items}
use Rattle.trace_workers.proofs.played.put_all.Given as goal

abbrev pub invariant-loop-part : goal.invariant-loop-part
invariant-loop-part l = record {
  parts : l.parts ≡ l.fn.parts ++ l.yielded;
  whole : l.yielded ++ into_iter_items l.part-iterator ≡ l.fn.more;
}
