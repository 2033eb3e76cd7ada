-- How an operation comes to be listed, or why not, as the newest steps of its scanner.
use Rattle.std.specs.Prelude.{◌≡◌, ◌≢◌, ◌⊎◌, ℕ, ◌<◌, false}
use Rattle.room_core.specs.declared.parts.Phase.{Phase}
use Rattle.room_core.specs.declared.parts.Session.{Session}
use Rattle.room_core.specs.declared.shape.Shape.{Shape}
use Rattle.room_core.specs.Description.{deadline_word, gauge_word, needs_word}
use Rattle.room_core.specs.Gauges.{IsGaugeOf, clock_of}
use Rattle.room_core.specs.Meetings.{is_live}
use Rattle.room_core.specs.Numbers.{clock_mark}
use Rattle.room_table.specs.declared.part.ScannerStep.{ScannerStep}
use Rattle.room_table.specs.Seats.{ScanView, scanner_did}
use Rattle.purgatory.specs.scans.Going.{GoesOn}

-- a session word that is open at this generation
abbrev pub open_at : ℕ → Session
open_at generation = record { generation = generation; phase = Phase.Open }

-- it met the pass, and found its session word not open at this generation
pub record FoundElse (pass generation : ℕ) (old new : ScanView) : Type 0 where
  pub before : ScanView
  pub found : Session
  pub came : GoesOn old before
  pub steps : new ≡ scanner_did before (ScannerStep.Met pass found)
  pub other : is_live found generation ≡ false

-- it met the pass at this generation, and learned how many needs the operation has and of which gauge the one with this number is
abbrev pub need_learned : ScanView → ℕ → ℕ → ℕ → ℕ → ℕ → ScanView
need_learned before pass generation at needs gauge =
    scanner_did (scanner_did (scanner_did before
    (ScannerStep.Met pass (open_at generation))) (ScannerStep.Learned needs_word needs)) (ScannerStep.Learned (gauge_word at) gauge)

-- the operation has the need, and its gauge is one of the scanner's
pub record IsNeedOf (shape : Shape) (k at needs gauge : ℕ) : Type 0 where
  pub there : at < needs
  pub own : IsGaugeOf shape k gauge
  pub no_clock : gauge ≢ clock_of shape

-- it then listed the operation under that gauge
pub record IsListedNeed (pass generation at : ℕ) (old new : ScanView) : Type 0 where
  pub before : ScanView
  pub needs : ℕ
  pub gauge : ℕ
  pub came : GoesOn old before
  pub steps : new ≡ scanner_did (need_learned before pass generation at needs gauge) (ScannerStep.Listed pass at)
  pub need : IsNeedOf old.table.shape old.scanner at needs gauge

-- or that was no need of a gauge of its own
pub record IsNoNeed (pass generation at : ℕ) (old new : ScanView) : Type 0 where
  pub before : ScanView
  pub needs : ℕ
  pub gauge : ℕ
  pub came : GoesOn old before
  pub steps : new ≡ need_learned before pass generation at needs gauge
  pub need : ¬ IsNeedOf old.table.shape old.scanner at needs gauge

-- a shard's scanner lists the open operation of the pass under the gauge of its need of this number
abbrev pub HasListedNeed : ℕ → ℕ → ℕ → ScanView → ScanView → Type 0
HasListedNeed pass generation at old new = IsListedNeed pass generation at old new ⊎ (FoundElse pass generation old new ⊎ IsNoNeed pass generation at old new)

-- it met the pass at this generation, learned the deadline, and listed the operation under the clock
pub record IsListedDeadline (pass generation : ℕ) (old new : ScanView) : Type 0 where
  pub before : ScanView
  pub deadline : ℕ
  pub came : GoesOn old before
  pub steps : new ≡ scanner_did (scanner_did (scanner_did before (ScannerStep.Met pass (open_at generation))) (ScannerStep.Learned deadline_word deadline)) (ScannerStep.Listed pass clock_mark)

-- the clock's scanner lists the open operation of the pass under its deadline
abbrev pub HasListedDeadline : ℕ → ℕ → ScanView → ScanView → Type 0
HasListedDeadline pass generation old new = IsListedDeadline pass generation old new ⊎ FoundElse pass generation old new
