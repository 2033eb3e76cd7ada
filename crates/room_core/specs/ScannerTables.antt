-- The part that a scanner's tables show.
use Rattle.std.specs.Prelude.{ℕ, Vec, Option, Some, None, slice_get}
use Rattle.std.specs.declared.alloc.Global.{Global}
use Rattle.room_core.specs.declared.scanner_part.ScannerPart.{ScannerPart}
use Rattle.room_core.specs.CallerTables.{table}
use Rattle.room_core.specs.State.{Scanner}
use Rattle.room_core.specs.Start.{idle_scanner}

-- a list of lists as a table of tables
abbrev pub row : {A : Type 0} → Option (Vec A Global) → A → ℕ → A
row None none i = none
row (Some xs) none i = table xs.items none i

abbrev pub scanner_of : ScannerPart → Scanner
scanner_of c = record {
  heard = c.heard;
  began = table c.began.items 0;
  listing = λ gauge. row (slice_get c.listing.items gauge) None;
  duties = table c.duties.items None;
  meeting = c.meeting;
  learned = table c.learned.items None;
  readings = table c.readings.items None;
  wins = c.wins.items;
}

abbrev pub scanner_at : Option ScannerPart → Scanner
scanner_at None = idle_scanner
scanner_at (Some c) = scanner_of c
