use Rattle.std.proofs.Common.{◌≡◌, ◌++◌, List, length, map}
use Rattle.std.specs.Prelude.{All}
use Rattle.std.specs.Vec.Iter.{into_iter_items, into_iter_len}
use Rattle.purgatory.specs.Making.{AreFrom, IsFreshCaller}
use Rattle.purgatory.specs.Rooms.{LockView, with_locks}
use Rattle.purgatory.proofs.making.room_passes.Given as goal

abbrev pub invariant-loop-seat : goal.invariant-loop-seat
invariant-loop-seat l = record {
  keys : length l.keys ≡ length (into_iter_items l.seat-iterator);
  left : AreFrom (IsFreshCaller l.shape) (length l.passes) (into_iter_items l.seat-iterator);
  len : into_iter_len l.seat-iterator ≡ length (into_iter_items l.seat-iterator);
  made : (locks : List LockView) → All (λ ring. ring ≡ locks) l.fn.keys
      → All (λ ring. ring ≡ locks) l.keys × (l.passes ++ map (with_locks locks) (into_iter_items l.seat-iterator) ≡ map (with_locks locks) (into_iter_items l.initial.seat-iterator));
}
