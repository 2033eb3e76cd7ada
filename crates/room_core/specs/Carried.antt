-- What is carried from event to event: soundness, what upholds it, and that nothing lies outside the shape.
use Rattle.std.specs.Prelude.{◌≡◌, ◌≢◌, ℕ, ◌≤◌, Some}
use Rattle.room_core.specs.declared.shape.Shape.{Shape}
use Rattle.room_core.specs.declared.parts.Stage.{Stage}
use Rattle.room_core.specs.declared.parts.Heard.{Heard}
use Rattle.room_core.specs.declared.parts.Entry.{Entry}
use Rattle.room_core.specs.declared.parts.Duty.{Duty}
use Rattle.room_core.specs.declared.parts.Meeting.{Meeting}
use Rattle.room_core.specs.Gauges.{IsShape, IsGaugeOf}
use Rattle.room_core.specs.Sound.{IsSound, IsEntry}
use Rattle.room_core.specs.State.{State, Scanner}
use Rattle.room_core.specs.Within.{IsWithin}

-- What holds of each scanner by itself. What it has heard is of a gauge of its own, and so is each entry of its listing; each
-- duty is an entry of the listing; all duties are of one gauge; and each entry of the pass that it has met has the meeting's
-- generation.
pub record ScannerIsKept (shape : Shape) (k : ℕ) (scanner : Scanner) : Type 0 where
  pub heard : (heard : Heard) → scanner.heard ≡ Some heard → IsGaugeOf shape k heard.gauge
  pub entry : (gauge pass : ℕ) (entry : Entry) → scanner.listing gauge pass ≡ Some entry → IsGaugeOf shape k gauge
  pub duty : (pass : ℕ) (duty : Duty) → scanner.duties pass ≡ Some duty → IsEntry (scanner.listing duty.gauge pass) duty.generation
  pub one_gauge : (pass other : ℕ) (duty more : Duty) → scanner.duties pass ≡ Some duty → scanner.duties other ≡ Some more
      → duty.gauge ≡ more.gauge
  pub met : (gauge : ℕ) (meeting : Meeting) (entry : Entry) → scanner.meeting ≡ Some meeting
      → scanner.listing gauge meeting.pass ≡ Some entry → entry.generation ≡ meeting.generation

-- soundness, and what upholds it
pub record IsUpheld (s : State) : Type 0 where
  pub shape : IsShape s.shape
  pub sound : IsSound s
  -- a pass that isn't idle has opened an operation
  pub opened : (pass : ℕ) → (s.caller pass).stage ≢ Stage.Idle → 1 ≤ (s.session pass).generation
  pub scanners : (k : ℕ) → ScannerIsKept s.shape k (s.scanner k)

pub record IsCarried (s : State) : Type 0 where
  pub shape : IsShape s.shape
  pub sound : IsSound s
  pub opened : (pass : ℕ) → (s.caller pass).stage ≢ Stage.Idle → 1 ≤ (s.session pass).generation
  pub scanners : (k : ℕ) → ScannerIsKept s.shape k (s.scanner k)
  pub within : IsWithin s
