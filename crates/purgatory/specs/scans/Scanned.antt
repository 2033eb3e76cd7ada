-- A scan of a gauge, as the steps of its scanner.
use Rattle.std.specs.Prelude.{◌≡◌, ◌≢◌, ℕ, ◌≤◌}
use Rattle.room_table.specs.declared.part.ScannerStep.{ScannerStep}
use Rattle.room_table.specs.Seats.{ScanView, scanner_did, scanner_now}
use Rattle.purgatory.specs.scans.Going.{GoesOn}

-- the scanner has heard up to which value the gauge is to be scanned, and has begun a scan
abbrev pub scan_begun : ScanView → ℕ → ℕ → ScanView
scan_begun seat gauge heard = scanner_did (scanner_did seat (ScannerStep.Heard gauge heard)) (ScannerStep.Began gauge ((scanner_now seat).began gauge))

-- The scanner has heard and begun, and has gone on. It heard no less than it had begun of the gauge, and has now begun as much as
-- it heard; of the other gauges it has begun what it had.
pub record HasScanned (gauge : ℕ) (old new : ScanView) : Type 0 where
  pub heard : ℕ
  pub went : GoesOn (scan_begun old gauge heard) new
  pub least : (scanner_now old).began gauge ≤ heard
  pub began : (scanner_now new).began gauge ≡ heard
  pub others : (other : ℕ) → other ≢ gauge → (scanner_now new).began other ≡ (scanner_now old).began other
