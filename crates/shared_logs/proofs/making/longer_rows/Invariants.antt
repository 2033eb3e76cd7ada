use Rattle.std.proofs.Common.{◌≡◌, ◌+◌, List, [], ◌∷◌, ◌++◌, length}
use Rattle.std.specs.Vec.Iter.{into_iter_items, into_iter_len}
use Rattle.purgatory.specs.Making.{AreFrom}
use Rattle.purgatory.specs.Rooms.{LockView}
use Rattle.shared_logs.specs.Dealt.{IsFreshOf, IsFreshRow}
use Rattle.shared_logs.proofs.making.longer_rows.Given as goal

abbrev pub invariant-loop-row : goal.invariant-loop-row
invariant-loop-row l = record {
  rows_len : into_iter_len l.row-iterator ≡ length (into_iter_items l.row-iterator);
  keys_len : into_iter_len l.left ≡ length (into_iter_items l.left);
  same : length (into_iter_items l.left) ≡ length (into_iter_items l.row-iterator);
  count : length l.longer + length (into_iter_items l.row-iterator) ≡ length l.fn.rows;
  each : (locks : List LockView) (lock : LockView) → AreFrom (IsFreshRow locks) 0 l.fn.rows → AreFrom (IsFreshOf lock) 0 l.fn.keys
      → AreFrom (IsFreshRow locks) (length l.longer) (into_iter_items l.row-iterator) × AreFrom (IsFreshOf lock) (length l.longer) (into_iter_items l.left)
      × AreFrom (IsFreshRow (locks ++ lock ∷ [])) 0 l.longer;
}
