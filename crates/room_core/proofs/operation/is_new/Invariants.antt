use Rattle.std.proofs.Common.{◌≢◌, ℕ, ◌<◌}
use Rattle.room_core.specs.CallerTables.{table}
use Rattle.room_core.specs.Description.{gauge_of}
use Rattle.room_core.proofs.operation.is_new.Given as goal

abbrev pub invariant-loop-j : goal.invariant-loop-j
invariant-loop-j l = (j : ℕ) → j < l.j → gauge_of (table l.words 0) j ≢ gauge_of (table l.words 0) l.i
