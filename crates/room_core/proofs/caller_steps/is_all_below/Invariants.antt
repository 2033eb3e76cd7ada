use Rattle.std.proofs.Common.{◌≡◌, true, false}
use Rattle.room_core.specs.CallerTables.{table}
use Rattle.room_core.specs.Passes.{all_below}
use Rattle.room_core.proofs.caller_steps.is_all_below.Given as goal

abbrev pub invariant-loop-i : goal.invariant-loop-i
invariant-loop-i l = all_below (table l.seen false) l.i ≡ true
