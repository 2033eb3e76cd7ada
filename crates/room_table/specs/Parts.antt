-- What a part has come to by its steps, of which the newest stands first: what the room's machine says of each.
use Rattle.std.specs.Prelude.{ℕ, true, false, List, [], ◌∷◌}
use Rattle.room_core.specs.declared.shape.Shape.{Shape}
use Rattle.room_core.specs.declared.parts.Source.{Source}
use Rattle.room_core.specs.State.{Caller, Scanner}
use Rattle.room_core.specs.Start.{idle_caller, idle_scanner}
use Rattle.room_core.specs.Scans.{source_hushes, caller_asks, caller_relieves, scanner_hears, scanner_begins}
use Rattle.room_core.specs.Passes.{caller_describes, caller_opens, caller_sees_mark, caller_peeks, caller_idles}
use Rattle.room_core.specs.Meetings.{scanner_meets, scanner_learns, scanner_marks}
use Rattle.room_core.specs.Checks.{caller_reads, caller_leaves, caller_wins, scanner_reads, scanner_leaves, scanner_wins}
use Rattle.room_table.specs.declared.part.SourceStep.{SourceStep}
use Rattle.room_table.specs.declared.part.CallerStep.{CallerStep}
use Rattle.room_table.specs.declared.part.ScannerStep.{ScannerStep}

abbrev pub source_after : SourceStep → Source → Source
source_after (SourceStep.Stored value) source = record { stored = value; loud = true }
source_after (SourceStep.Hushed asked) source = source_hushes source asked

abbrev pub source_of : List SourceStep → Source
source_of [] = record { stored = 0; loud = false }
source_of (step ∷ steps) = source_after step (source_of steps)

abbrev pub caller_after : Shape → ℕ → CallerStep → Caller → Caller
caller_after shape pass (CallerStep.Asked gauge value) caller = caller_asks caller gauge value
caller_after shape pass (CallerStep.Relieved gauge begun) caller = caller_relieves caller gauge begun
caller_after shape pass (CallerStep.Described at word) caller = caller_describes caller at word
caller_after shape pass CallerStep.Opened caller = caller_opens caller
caller_after shape pass (CallerStep.SawMark at mark) caller = caller_sees_mark caller at mark
caller_after shape pass (CallerStep.Read gauge value) caller = caller_reads caller gauge value
caller_after shape pass (CallerStep.Left gauge value) caller = caller_leaves shape caller gauge value
caller_after shape pass (CallerStep.Won how found) caller = caller_wins caller pass how found
caller_after shape pass (CallerStep.Peeked found) caller = caller_peeks caller found.phase
caller_after shape pass CallerStep.Idled caller = caller_idles caller

abbrev pub caller_of : Shape → ℕ → List CallerStep → Caller
caller_of shape pass [] = idle_caller
caller_of shape pass (step ∷ steps) = caller_after shape pass step (caller_of shape pass steps)

abbrev pub scanner_after : Shape → ℕ → ScannerStep → Scanner → Scanner
scanner_after shape k (ScannerStep.Heard gauge asked) scanner = scanner_hears scanner gauge asked
scanner_after shape k (ScannerStep.Began gauge begun) scanner = scanner_begins shape scanner gauge begun
scanner_after shape k (ScannerStep.Met pass found) scanner = scanner_meets scanner pass found
scanner_after shape k (ScannerStep.Learned at word) scanner = scanner_learns scanner at word
scanner_after shape k (ScannerStep.Listed pass at) scanner = scanner_marks shape scanner pass at
scanner_after shape k (ScannerStep.Read gauge value) scanner = scanner_reads scanner gauge value
scanner_after shape k (ScannerStep.Left pass gauge value) scanner = scanner_leaves shape k scanner pass gauge value
scanner_after shape k (ScannerStep.Won pass how found) scanner = scanner_wins scanner pass how found

abbrev pub scanner_of : Shape → ℕ → List ScannerStep → Scanner
scanner_of shape k [] = idle_scanner
scanner_of shape k (step ∷ steps) = scanner_after shape k step (scanner_of shape k steps)
