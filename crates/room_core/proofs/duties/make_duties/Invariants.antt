use Rattle.std.proofs.Common.{◌≡◌, ℕ, ◌<◌, None, get_or, length}
use Rattle.room_core.specs.Scans.{duty_of}
use Rattle.room_core.proofs.duties.make_duties.Given as goal

abbrev pub invariant-loop-pass : goal.invariant-loop-pass
invariant-loop-pass l = record {
  long : length l.duties.items ≡ length l.row;
  made : (k : ℕ) → k < l.pass → get_or l.duties.items k None ≡ duty_of l.fn.shape l.fn.gauge l.fn.begun l.fn.heard (get_or l.row k None);
}
