use Rattle.std.proofs.Common.{◌≡◌, length, All, replicate, None}
use Rattle.room_core.proofs.scanner_part.empty_rows.Given as goal

abbrev pub invariant-loop-gauge : goal.invariant-loop-gauge
invariant-loop-gauge l = record {
  long : length l.rows.items ≡ l._gauge;
  rows : All (λ row. row.items ≡ replicate l.shape.passes None) l.rows.items;
}
