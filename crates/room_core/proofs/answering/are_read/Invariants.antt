use Rattle.std.proofs.Common.{ℕ, ◌<◌, ◌≤◌, None}
use Rattle.room_core.specs.CallerTables.{table}
use Rattle.room_core.specs.Checks.{IsRead}
use Rattle.room_core.specs.Description.{gauge_of}
use Rattle.room_core.proofs.answering.are_read.Given as goal

abbrev pub invariant-loop-i : goal.invariant-loop-i
invariant-loop-i l =
    ((i : ℕ) → i < l.i → IsRead (table l.readings None) l.last (gauge_of (table l.words 0) i)) × (l.needs ≤ 65)
