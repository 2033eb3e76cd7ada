-- What a clause sees of the table and of its seats.
use Rattle.std.specs.Prelude.{◌≡◌, ℕ, ◌^◌, ◌<◌, List, [], ◌∷◌, Some}
use Rattle.atomic_table.specs.Seated.{TableId}
use Rattle.room_core.specs.declared.shape.Shape.{Shape}
use Rattle.room_core.specs.declared.parts.Meeting.{Meeting}
use Rattle.room_core.specs.declared.parts.Source.{Source}
use Rattle.room_core.specs.declared.word.Word.{Word}
use Rattle.room_core.specs.Scans.{number_heard}
use Rattle.room_core.specs.State.{Caller, Scanner}
use Rattle.room_table.specs.declared.part.Part.{Part}
use Rattle.room_table.specs.declared.part.SourceStep.{SourceStep}
use Rattle.room_table.specs.declared.part.CallerStep.{CallerStep}
use Rattle.room_table.specs.declared.part.ScannerStep.{ScannerStep}
use Rattle.room_table.specs.Layout.{place_of}
use Rattle.room_table.specs.Parts.{source_of, caller_of, scanner_of}
use Rattle.room_table.specs.Tells.{Sat, shape_in, source_steps, caller_steps, scanner_steps, caller_in, scanner_in}

-- which table it is, and the room's shape
pub record TableView : Type 0 where
  pub id : TableId
  pub shape : Shape

abbrev pub table_view : TableId → Shape → TableView
table_view id shape = record { id = id; shape = shape }

-- a seat of a gauge's source: its table, and the steps that it made, the newest first
pub record SourceView : Type 0 where
  pub table : TableView
  pub gauge : ℕ
  pub steps : List SourceStep

-- of a pass
pub record CallerView : Type 0 where
  pub table : TableView
  pub pass : ℕ
  pub steps : List CallerStep

-- of a scanner
pub record ScanView : Type 0 where
  pub table : TableView
  pub scanner : ℕ
  pub steps : List ScannerStep

-- what the source, the pass or the scanner knows now
abbrev pub source_now : SourceView → Source
source_now seat = source_of seat.steps

abbrev pub caller_now : CallerView → Caller
caller_now seat = caller_of seat.table.shape seat.pass seat.steps

abbrev pub scanner_now : ScanView → Scanner
scanner_now seat = scanner_of seat.table.shape seat.scanner seat.steps

-- the seat after a step more
abbrev pub source_did : SourceView → SourceStep → SourceView
source_did seat step = record seat { steps = step ∷ seat.steps }

abbrev pub caller_did : CallerView → CallerStep → CallerView
caller_did seat step = record seat { steps = step ∷ seat.steps }

abbrev pub scanner_did : ScanView → ScannerStep → ScanView
scanner_did seat step = record seat { steps = step ∷ seat.steps }

-- a seat with these parts, seen so
abbrev pub source_view : TableId → ℕ → List Part → SourceView
source_view id gauge parts = record { table = table_view id (shape_in parts); gauge = gauge; steps = source_steps parts }

abbrev pub caller_view : TableId → ℕ → List Part → CallerView
caller_view id pass parts = record { table = table_view id (shape_in parts); pass = pass; steps = caller_steps parts }

abbrev pub scan_view : TableId → ℕ → List Part → ScanView
scan_view id k parts = record { table = table_view id (shape_in parts); scanner = k; steps = scanner_steps parts }

-- the seat has this one part
abbrev pub HasSource : ℕ → Sat → Type 0
HasSource gauge m = m ≡ (Part.Source (shape_in m.0) gauge (source_steps m.0) ∷ [], [])

abbrev pub HasCaller : ℕ → Sat → Type 0
HasCaller pass m = m ≡ (Part.Caller (shape_in m.0) pass (caller_steps m.0) ∷ [], [])

abbrev pub HasScanner : ℕ → Sat → Type 0
HasScanner k m = m ≡ (Part.Scanner (shape_in m.0) k (scanner_steps m.0) ∷ [], [])

-- and the generation is that of its operation, and the place where the words of the pass begin
pub record CallerIs (pass generation first : ℕ) (m : Sat) : Type 0 where
  pub has : HasCaller pass m
  pub generation_is : (caller_in m.0).generation ≡ generation
  pub first_is : first ≡ place_of (shape_in m.0) (Word.Session pass)
  pub first_fits : first < 2 ^ 32

-- and the numbers are what it heard last, the generation of its meeting, and where the words of the pass met begin
pub record ScannerIs (k heard met first : ℕ) (m : Sat) : Type 0 where
  pub has : HasScanner k m
  pub heard_is : number_heard (scanner_in m.0).heard ≡ heard
  pub met_is : (meeting : Meeting) → (scanner_in m.0).meeting ≡ Some meeting → meeting.generation ≡ met
  pub first_is : (meeting : Meeting) → (scanner_in m.0).meeting ≡ Some meeting → first ≡ place_of (shape_in m.0) (Word.Session meeting.pass)
  pub first_fits : first < 2 ^ 32
