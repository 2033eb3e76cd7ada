use Rattle.std.proofs.Common.{◌≡◌, length, All}
use Rattle.room_core.specs.CallerTables.{caller_of}
use Rattle.room_core.specs.Start.{idle_caller}
use Rattle.room_core.proofs.core_state.idle_callers.Given as goal

abbrev pub invariant-loop-pass : goal.invariant-loop-pass
invariant-loop-pass l = record {
  long : length l.callers.items ≡ l._pass;
  shape : All (λ c. c.shape ≡ l.shape) l.callers.items;
  idle : All (λ c. caller_of c ≡ idle_caller) l.callers.items;
}
