use Rattle.std.proofs.Common.{◌≡◌, ◌++◌, length}
use Rattle.std.specs.Vec.Iter.{into_iter_items, into_iter_len}
use Rattle.purgatory.specs.Making.{AreFrom, IsFreshSource}
use Rattle.purgatory.proofs.making.quiet_sources.Given as goal

abbrev pub invariant-loop-seat : goal.invariant-loop-seat
invariant-loop-seat l = record {
  all : l.sources ++ into_iter_items l.seat-iterator ≡ into_iter_items l.initial.seat-iterator;
  left : AreFrom IsFreshSource (length l.sources) (into_iter_items l.seat-iterator);
  len : into_iter_len l.seat-iterator ≡ length (into_iter_items l.seat-iterator);
}
