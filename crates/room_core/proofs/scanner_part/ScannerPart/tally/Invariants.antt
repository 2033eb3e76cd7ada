use Rattle.std.proofs.Common.{◌≡◌, ◌*◌, ◌≤◌}
use Rattle.room_core.specs.Description.{tally_below}
use Rattle.room_core.specs.Meetings.{words_of}
use Rattle.room_core.specs.Readings.{read_only}
use Rattle.room_core.specs.ScannerTables.{scanner_of}
use Rattle.room_core.proofs.scanner_part.ScannerPart.tally.Given as goal

abbrev pub invariant-loop-need : goal.invariant-loop-need
invariant-loop-need l =
    (l.sum ≡ tally_below (words_of (scanner_of l.fn.self)) (read_only (scanner_of l.fn.self).readings) l.need) ×
    (l.sum ≤ l.need * 18446744073709551616)
