use Rattle.std.proofs.Common.{◌≡◌, ◌+◌, ◌*◌, length, map}
use Rattle.std.specs.Vec.Iter.{into_iter_items, into_iter_len}
use Rattle.room_table.specs.Handed.{fresh_source}
use Rattle.room_table.specs.Seats.{TableView}
use Rattle.purgatory.specs.Making.{AreFrom}
use Rattle.shared_logs.specs.Dealt.{AreFirst, IsFreshRow, IsPartLock}
use Rattle.shared_logs.specs.Locked.{part_lock}
use Rattle.shared_logs.proofs.making.part_locks.Given as goal

abbrev pub invariant-loop-part : goal.invariant-loop-part
invariant-loop-part l = record {
  count : length l.locks.items ≡ l.part;
  len : into_iter_len l.left ≡ length (into_iter_items l.left);
  sources_count : length (into_iter_items l.left) + 3 * l.part ≡ 3 * length l.followers;
  sources : (table : TableView) → AreFirst table (3 * length l.followers) l.fn.sources → AreFrom (λ gauge source. source ≡ fresh_source table gauge) (3 * l.part) (into_iter_items l.left);
  locks : (table : TableView) → AreFirst table (3 * length l.followers) l.fn.sources → AreFrom (IsPartLock table l.followers l.passes) 0 l.locks.items;
  rows_count : length l.rows ≡ l.passes;
  rows : AreFrom (IsFreshRow (map part_lock l.locks.items)) 0 l.rows;
}
