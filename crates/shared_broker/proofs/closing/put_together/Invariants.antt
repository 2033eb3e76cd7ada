use Rattle.std.proofs.Common.{◌≡◌, ◌++◌, length}
use Rattle.std.specs.List.{AllZip}
use Rattle.std.specs.Vec.Iter.{into_iter_items, into_iter_len}
use Rattle.shared_broker.specs.Closed.{IsJoined, gathered}
use Rattle.shared_broker.proofs.closing.put_together.Given as goal

abbrev pub invariant-loop-seat : goal.invariant-loop-seat
invariant-loop-seat l = record {
  seats_len : into_iter_len l.seat-iterator ≡ length (into_iter_items l.seat-iterator);
  sheets_len : into_iter_len l.left ≡ length (into_iter_items l.left);
  same : length (into_iter_items l.left) ≡ length (into_iter_items l.seat-iterator);
  joined : AllZip IsJoined (into_iter_items l.seat-iterator) (into_iter_items l.left);
  all : l.passes ++ gathered (into_iter_items l.seat-iterator) (into_iter_items l.left) ≡ gathered l.fn.logs l.fn.sheets;
}
