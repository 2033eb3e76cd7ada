use Rattle.std.proofs.Common.{◌≡◌, ◌++◌, List, length}
use Rattle.room_table.specs.Seats.{ScanView}
use Rattle.room_table.proofs.hand.take_scanners.Given as goal

abbrev pub invariant-loop-scan : goal.invariant-loop-scan
invariant-loop-scan l = (rest : List ScanView) × (l.fn.scanners ≡ l.scanners ++ rest) × (l.closing ≡ record l.initial.closing { scanners = rest ++ l.initial.closing.scanners })

abbrev pub decreases-loop-scan : goal.decreases-loop-scan
decreases-loop-scan l = length l.scanners
