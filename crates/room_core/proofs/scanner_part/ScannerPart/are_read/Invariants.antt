use Rattle.std.proofs.Common.{ℕ, ◌<◌}
use Rattle.room_core.specs.Checks.{IsRead}
use Rattle.room_core.specs.Description.{gauge_of}
use Rattle.room_core.specs.Meetings.{words_of}
use Rattle.room_core.specs.ScannerTables.{scanner_of}
use Rattle.room_core.proofs.scanner_part.ScannerPart.are_read.Given as goal

abbrev pub invariant-loop-need : goal.invariant-loop-need
invariant-loop-need l = (i : ℕ) → i < l.need → IsRead (scanner_of l.fn.self).readings l.fn.last (gauge_of (words_of (scanner_of l.fn.self)) i)
