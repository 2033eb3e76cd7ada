use Rattle.std.proofs.Common.{◌≡◌, length, All, replicate}
use Rattle.room_core.proofs.core_state.mark_rows.Given as goal

abbrev pub invariant-loop-pass : goal.invariant-loop-pass
invariant-loop-pass l = record {
  long : length l.rows.items ≡ l._pass;
  rows : All (λ row. row.items ≡ replicate 65 0) l.rows.items;
}
