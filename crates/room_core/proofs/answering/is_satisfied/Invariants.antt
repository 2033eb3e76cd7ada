use Rattle.std.proofs.Common.{◌≡◌, ◌-◌, ◌≤◌, None}
use Rattle.room_core.specs.CallerTables.{table}
use Rattle.room_core.specs.Description.{tally_below}
use Rattle.room_core.specs.Readings.{read_only}
use Rattle.room_core.proofs.answering.is_satisfied.Given as goal

abbrev pub invariant-loop-i : goal.invariant-loop-i
invariant-loop-i l =
    (l.left ≡ table l.words 0 0 - tally_below (table l.words 0) (read_only (table l.readings None)) l.i) × (l.needs ≤ 64)
