use Rattle.std.proofs.Common.{◌≢◌, ℕ, ◌+◌, ◌*◌, ◌<◌, ◌^◌}
use Rattle.room_core.specs.CallerTables.{table}
use Rattle.room_core.specs.Description.{gauge_of}
use Rattle.room_core.specs.Gauges.{clock_of}
use Rattle.room_core.proofs.operation.is_operation.Given as goal

abbrev pub invariant-loop-i : goal.invariant-loop-i
invariant-loop-i l =
    (i : ℕ) → i < l.i
    → (gauge_of (table l.words 0) i < clock_of l.shape) × (table l.words 0 (5 + 3 * i) < 2 ^ 31) × ((j : ℕ) → j < i → gauge_of (table l.words 0) j ≢ gauge_of (table l.words 0) i)
