use Rattle.std.proofs.Common.{◌≡◌, ◌-◌, [], ◌++◌}
use Rattle.std.specs.Prelude.{map}
use Rattle.std.specs.List.{range_with_len}
use Rattle.room_table.specs.Fresh.{sources_from, all_callers}
use Rattle.room_table.specs.Handed.{fresh_source}
use Rattle.room_table.specs.Seats.{table_view}
use Rattle.room_table.proofs.hand.hand_sources.Given as goal

abbrev pub invariant-loop-gauge : goal.invariant-loop-gauge
invariant-loop-gauge l = record {
  table : l.seat.table_id ≡ l.top.table_id;
  parts : l.seat.me ≡ (sources_from l.fn.shape l.gauge (l.fn.shape.gauges - l.gauge) ++ all_callers l.fn.shape, []);
  given : l.all ≡ map (fresh_source (table_view l.top.table_id l.fn.shape)) (range_with_len 0 l.gauge);
}
