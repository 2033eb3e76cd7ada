use Rattle.std.proofs.Common.{ℕ, ◌<◌}
use Rattle.room_core.specs.Meetings.{IsLearned}
use Rattle.room_core.specs.ScannerTables.{scanner_of}
use Rattle.room_core.proofs.scanner_part.ScannerPart.is_all_learned.Given as goal

abbrev pub invariant-loop-at : goal.invariant-loop-at
invariant-loop-at l = (i : ℕ) → i < l.at → IsLearned (scanner_of l.fn.self) i
