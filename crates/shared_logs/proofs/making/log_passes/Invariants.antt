use Rattle.std.proofs.Common.{◌≡◌, ◌+◌, length}
use Rattle.std.specs.Vec.Iter.{into_iter_items, into_iter_len}
use Rattle.shared_logs.specs.Dealt.{AreDealt}
use Rattle.shared_logs.specs.Making.{fresh_log_passes}
use Rattle.shared_logs.specs.Shared.{SharedView}
use Rattle.shared_logs.proofs.making.log_passes.Given as goal

abbrev pub invariant-loop-room : goal.invariant-loop-room
invariant-loop-room l = record {
  seats_len : into_iter_len l.room-iterator ≡ length (into_iter_items l.room-iterator);
  rows_len : into_iter_len l.rows_left ≡ length (into_iter_items l.rows_left);
  clocks_len : into_iter_len l.clocks_left ≡ length (into_iter_items l.clocks_left);
  count : length l.passes + length (into_iter_items l.room-iterator) ≡ length l.fn.seats;
  each : (shared : SharedView) → AreDealt shared 0 l.fn.seats l.fn.rows l.fn.clocks
      → AreDealt shared (length l.passes) (into_iter_items l.room-iterator) (into_iter_items l.rows_left) (into_iter_items l.clocks_left)
      × (l.passes ≡ fresh_log_passes shared (length l.passes));
}
