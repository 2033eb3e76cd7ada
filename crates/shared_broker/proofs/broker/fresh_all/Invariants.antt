use Rattle.std.proofs.Common.{◌≡◌, map}
use Rattle.std.specs.Prelude.{All}
use Rattle.std.specs.Vec.Iter.{into_iter_items}
use Rattle.shared_broker.specs.Fresh.{IsNewOf, pass_with}
use Rattle.shared_broker.proofs.broker.fresh_all.Given as goal

abbrev pub invariant-loop-seat : goal.invariant-loop-seat
invariant-loop-seat l = record {
  passes : l.passes ≡ map (pass_with l.fn.config) l.yielded;
  left : All (IsNewOf l.fn.config) (into_iter_items l.seat-iterator);
}
