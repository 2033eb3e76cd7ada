-- The seats of a table as they are handed out, and as they come back.
use Rattle.std.specs.Prelude.{◌≡◌, ℕ, ◌-◌, ◌==◌, List, [], ◌∷◌, ◌++◌, All, count_by, length, map}
use Rattle.std.specs.List.{range_with_len}
use Rattle.room_core.specs.Carried.{IsCarried}
use Rattle.room_core.specs.Gauges.{IsGauge, IsPass, IsScanner}
use Rattle.room_core.specs.Numbers.{clock_scanner}
use Rattle.room_core.specs.State.{State}
use Rattle.room_table.specs.declared.part.Part.{Part}
use Rattle.room_table.specs.Seats.{TableView, SourceView, CallerView, ScanView, source_now, caller_now, scanner_now}
use Rattle.room_table.specs.Shown.{AreWords}

abbrev pub fresh_source : TableView → ℕ → SourceView
fresh_source table gauge = record { table = table; gauge = gauge; steps = [] }

abbrev pub fresh_caller : TableView → ℕ → CallerView
fresh_caller table pass = record { table = table; pass = pass; steps = [] }

abbrev pub fresh_scanner : TableView → ℕ → ScanView
fresh_scanner table k = record { table = table; scanner = k; steps = [] }

-- one seat for each, in the order of their numbers, that has made no step
abbrev pub fresh_sources : TableView → List SourceView
fresh_sources table = map (fresh_source table) (range_with_len 0 table.shape.gauges)

abbrev pub fresh_callers : TableView → List CallerView
fresh_callers table = map (fresh_caller table) (range_with_len 0 table.shape.passes)

-- the clock's scanner is the last
abbrev pub fresh_scanners : TableView → List ScanView
fresh_scanners table = map (fresh_scanner table) (range_with_len 0 (table.shape.scanners - 1)) ++ fresh_scanner table clock_scanner ∷ []

-- as many seats of the table as there are parts
pub record AreSources (table : TableView) (seats : List SourceView) : Type 0 where
  pub all : length seats ≡ table.shape.gauges
  pub each : All (λ seat. seat.table ≡ table) seats

pub record AreCallers (table : TableView) (seats : List CallerView) : Type 0 where
  pub all : length seats ≡ table.shape.passes
  pub each : All (λ seat. seat.table ≡ table) seats

pub record AreScanners (table : TableView) (seats : List ScanView) : Type 0 where
  pub all : length seats ≡ table.shape.scanners
  pub each : All (λ seat. seat.table ≡ table) seats

-- The words and what the seats know show a state that the room's machine carries. Each seat is of a gauge, a pass or a scanner of the
-- shape, and of each of these there is exactly one seat: so every part of the state is one that a seat shows.
pub record AreShown (table : TableView) (sources : List SourceView) (callers : List CallerView) (scanners : List ScanView) (row : List ℕ) : Type 0 where
  pub state : State
  pub shape : state.shape ≡ table.shape
  pub carried : IsCarried state
  pub words : AreWords state row
  pub source : All (λ seat. state.source seat.gauge ≡ source_now seat) sources
  pub caller : All (λ seat. state.caller seat.pass ≡ caller_now seat) callers
  pub scanner : All (λ seat. state.scanner seat.scanner ≡ scanner_now seat) scanners
  pub gauges : All (λ seat. IsGauge table.shape seat.gauge) sources
  pub passes : All (λ seat. IsPass table.shape seat.pass) callers
  pub numbers : All (λ seat. IsScanner table.shape seat.scanner) scanners
  pub one_source : (gauge : ℕ) → IsGauge table.shape gauge → count_by (λ seat. seat.gauge == gauge) sources ≡ 1
  pub one_caller : (pass : ℕ) → IsPass table.shape pass → count_by (λ seat. seat.pass == pass) callers ≡ 1
  pub one_scanner : (k : ℕ) → IsScanner table.shape k → count_by (λ seat. seat.scanner == k) scanners ≡ 1

-- a seat's part
abbrev pub source_part : SourceView → Part
source_part seat = Part.Source seat.table.shape seat.gauge seat.steps

abbrev pub caller_part : CallerView → Part
caller_part seat = Part.Caller seat.table.shape seat.pass seat.steps

abbrev pub scanner_part : ScanView → Part
scanner_part seat = Part.Scanner seat.table.shape seat.scanner seat.steps
