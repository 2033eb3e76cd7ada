-- A scanner's seat that goes on: its steps are those before and newer ones.
use Rattle.std.specs.Prelude.{◌≡◌, ℕ, List, ◌++◌}
use Rattle.room_core.specs.declared.parts.Session.{Session}
use Rattle.room_core.specs.Gauges.{IsPass}
use Rattle.room_table.specs.declared.part.ScannerStep.{ScannerStep}
use Rattle.room_table.specs.Seats.{ScanView, scanner_did}

pub record GoesOn (old new : ScanView) : Type 0 where
  pub table : new.table ≡ old.table
  pub scanner : new.scanner ≡ old.scanner
  pub newer : List ScannerStep
  pub steps : new.steps ≡ newer ++ old.steps

-- among the newer steps it met the pass
pub record HasMet (pass : ℕ) (old new : ScanView) : Type 0 where
  pub before : ScanView
  pub found : Session
  pub came : GoesOn old before
  pub went : GoesOn (scanner_did before (ScannerStep.Met pass found)) new

-- among the newer steps it met every pass
abbrev pub HasMetAll : ScanView → ScanView → Type 0
HasMetAll old new = (pass : ℕ) → IsPass old.table.shape pass → HasMet pass old new
