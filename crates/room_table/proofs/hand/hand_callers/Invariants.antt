use Rattle.std.proofs.Common.{◌≡◌, ◌-◌, [], ◌++◌}
use Rattle.std.specs.Prelude.{map}
use Rattle.std.specs.List.{range_with_len}
use Rattle.room_table.specs.Fresh.{callers_from, all_scanners}
use Rattle.room_table.specs.Handed.{fresh_caller}
use Rattle.room_table.specs.Seats.{table_view}
use Rattle.room_table.proofs.hand.hand_callers.Given as goal

abbrev pub invariant-loop-pass : goal.invariant-loop-pass
invariant-loop-pass l = record {
  table : l.seat.table_id ≡ l.top.table_id;
  parts : l.seat.me ≡ (callers_from l.fn.shape l.pass (l.fn.shape.passes - l.pass) ++ all_scanners l.fn.shape, []);
  given : l.all ≡ map (fresh_caller (table_view l.top.table_id l.fn.shape)) (range_with_len 0 l.pass);
}
