-- What a clause sees of a table that is closed seat by seat.
use Rattle.std.specs.Prelude.{◌≡◌, List, [], ◌∷◌, Option, Some, None, length}
use Rattle.std.specs.List.{filter_map}
use Rattle.atomic_table.specs.Seated.{TableId}
use Rattle.room_table.specs.declared.part.Part.{Part}
use Rattle.room_table.specs.Seats.{TableView, table_view, SourceView, CallerView, ScanView}

-- the table, and the seats that came back, the newest first
pub record ClosingView : Type 0 where
  pub table : TableView
  pub sources : List SourceView
  pub callers : List CallerView
  pub scanners : List ScanView

-- where none came back yet
abbrev pub none_back : TableView → ClosingView
none_back table = record { table = table; sources = []; callers = []; scanners = [] }

-- where one seat more came back
abbrev pub with_source : ClosingView → SourceView → ClosingView
with_source closing seat = record closing { sources = seat ∷ closing.sources }

abbrev pub with_caller : ClosingView → CallerView → ClosingView
with_caller closing seat = record closing { callers = seat ∷ closing.callers }

abbrev pub with_scanner : ClosingView → ScanView → ClosingView
with_scanner closing seat = record closing { scanners = seat ∷ closing.scanners }

-- as many seats came back as the table has parts
pub record AreAllBack (closing : ClosingView) : Type 0 where
  pub sources : length closing.sources ≡ closing.table.shape.gauges
  pub callers : length closing.callers ≡ closing.table.shape.passes
  pub scanners : length closing.scanners ≡ closing.table.shape.scanners

-- the seat of a part that came back
abbrev pub source_seat : TableId → Part → Option SourceView
source_seat id (Part.Source shape gauge steps) = Some (record { table = table_view id shape; gauge = gauge; steps = steps })
source_seat id (Part.Caller shape pass steps) = None
source_seat id (Part.Scanner shape k steps) = None

abbrev pub caller_seat : TableId → Part → Option CallerView
caller_seat id (Part.Source shape gauge steps) = None
caller_seat id (Part.Caller shape pass steps) = Some (record { table = table_view id shape; pass = pass; steps = steps })
caller_seat id (Part.Scanner shape k steps) = None

abbrev pub scan_seat : TableId → Part → Option ScanView
scan_seat id (Part.Source shape gauge steps) = None
scan_seat id (Part.Caller shape pass steps) = None
scan_seat id (Part.Scanner shape k steps) = Some (record { table = table_view id shape; scanner = k; steps = steps })

-- where these parts came back
abbrev pub closing_view : TableView → List Part → ClosingView
closing_view table parts = record {
  table = table;
  sources = filter_map (source_seat table.id) parts;
  callers = filter_map (caller_seat table.id) parts;
  scanners = filter_map (scan_seat table.id) parts;
}
