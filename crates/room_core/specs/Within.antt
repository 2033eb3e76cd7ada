-- What lies outside the shape is as at the start, and what names a pass names one of the shape's.
use Rattle.std.specs.Prelude.{◌≡◌, ℕ, ◌^◌, ◌<◌, ◌≤◌, false, Some}
use Rattle.room_core.specs.Numbers.{description_words, marks_count}
use Rattle.room_core.specs.declared.shape.Shape.{Shape}
use Rattle.room_core.specs.declared.parts.Phase.{Phase}
use Rattle.room_core.specs.declared.parts.Session.{Session}
use Rattle.room_core.specs.declared.parts.Source.{Source}
use Rattle.room_core.specs.declared.parts.Entry.{Entry}
use Rattle.room_core.specs.declared.parts.Duty.{Duty}
use Rattle.room_core.specs.declared.parts.Meeting.{Meeting}
use Rattle.room_core.specs.Gauges.{IsPass, IsScanner}
use Rattle.room_core.specs.Start.{idle_caller, idle_scanner}
use Rattle.room_core.specs.State.{State, Caller, Scanner}

-- from the n-th place on a table is as at the start
abbrev pub IsBeyond : {A : Type 0} → ℕ → (ℕ → A) → A → Type 0
IsBeyond n table start = (i : ℕ) → n ≤ i → table i ≡ start

-- the passes of a scanner's entries, duties and meeting are the shape's
pub record ScannerIsWithin (shape : Shape) (scanner : Scanner) : Type 0 where
  pub entry : (gauge pass : ℕ) (entry : Entry) → scanner.listing gauge pass ≡ Some entry → IsPass shape pass
  pub duty : (pass : ℕ) (duty : Duty) → scanner.duties pass ≡ Some duty → IsPass shape pass
  pub meeting : (meeting : Meeting) → scanner.meeting ≡ Some meeting → IsPass shape meeting.pass

-- by gauge
pub record GaugesAreWithin (shape : Shape) (value_at asked_at begun_at : ℕ → ℕ) (source_at : ℕ → Source) : Type 0 where
  pub value : IsBeyond shape.gauges value_at 0
  pub asked : IsBeyond shape.gauges asked_at 0
  pub begun : IsBeyond shape.gauges begun_at 0
  pub source : IsBeyond shape.gauges source_at (record { stored = 0; loud = false })

-- by pass; a description has 195 words, a pass 65 marks, and a generation 32 bits
pub record PassesAreWithin (shape : Shape) (session_at : ℕ → Session) (description_at marks_at : ℕ → ℕ → ℕ) (caller_at : ℕ → Caller) : Type 0 where
  pub session : IsBeyond shape.passes session_at (record { generation = 0; phase = Phase.Idle })
  pub description : IsBeyond shape.passes description_at (λ at. 0)
  pub marks : IsBeyond shape.passes marks_at (λ i. 0)
  pub caller : IsBeyond shape.passes caller_at idle_caller
  pub described : (pass : ℕ) → IsBeyond description_words (description_at pass) 0
  pub marked : (pass : ℕ) → IsBeyond marks_count (marks_at pass) 0
  pub generation : (pass : ℕ) → (session_at pass).generation < 2 ^ 32

-- by a scanner's number
pub record ScannersAreWithin (shape : Shape) (scanner_at : ℕ → Scanner) : Type 0 where
  pub scanner : (k : ℕ) → (IsScanner shape k → ⊥) → scanner_at k ≡ idle_scanner
  pub each : (k : ℕ) → ScannerIsWithin shape (scanner_at k)

pub record IsWithin (s : State) : Type 0 where
  pub gauges : GaugesAreWithin s.shape s.value s.asked s.begun s.source
  pub passes : PassesAreWithin s.shape s.session s.description s.marks s.caller
  pub scanners : ScannersAreWithin s.shape s.scanner
