use Rattle.std.proofs.Common.{◌≡◌, ◌+◌, ◌++◌, length, map}
use Rattle.std.specs.Prelude.{All}
use Rattle.std.specs.Vec.Iter.{into_iter_items, into_iter_len}
use Rattle.purgatory.specs.Making.{AreFrom, IsFreshScanner, names_of}
use Rattle.purgatory.specs.Turning.{IsKeyring, lock_view, shard_name}
use Rattle.purgatory.proofs.making.shard_locks.Given as goal

abbrev pub invariant-loop-seat : goal.invariant-loop-seat
invariant-loop-seat l = record {
  left : AreFrom (IsFreshScanner l.shape) (length l.locks.items) (into_iter_items l.seat-iterator);
  len : into_iter_len l.seat-iterator ≡ length (into_iter_items l.seat-iterator);
  size : length l.locks.items + length (into_iter_items l.seat-iterator) ≡ 16;
  names : map (λ lock. (lock_view shard_name lock).name) l.locks.items ++ names_of (into_iter_items l.seat-iterator) ≡ names_of (into_iter_items l.initial.seat-iterator);
  count : length l.rows ≡ l.shape.passes;
  rows : All (IsKeyring (map (lock_view shard_name) l.locks.items)) l.rows;
}
