use Rattle.std.proofs.Common.{◌≡◌, ◌-◌, [], ◌++◌}
use Rattle.std.specs.Prelude.{map}
use Rattle.std.specs.List.{range_with_len}
use Rattle.room_table.specs.Fresh.{scanners_from, last_part}
use Rattle.room_table.specs.Handed.{fresh_scanner}
use Rattle.room_table.specs.Seats.{table_view}
use Rattle.room_table.proofs.hand.hand_scanners.Given as goal

abbrev pub invariant-loop-scanner : goal.invariant-loop-scanner
invariant-loop-scanner l = record {
  table : l.seat.table_id ≡ l.top.table_id;
  parts : l.seat.me ≡ (scanners_from l.fn.shape l.scanner (l.fn.shape.scanners - 1 - l.scanner) ++ last_part l.fn.shape, []);
  given : l.all ≡ map (fresh_scanner (table_view l.top.table_id l.fn.shape)) (range_with_len 0 l.scanner);
}
