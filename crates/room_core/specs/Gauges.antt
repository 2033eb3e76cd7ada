-- Gauges, passes and scanners of a shape.
use Rattle.std.specs.Prelude.{◌≡◌, ◌⊎◌, ℕ, ◌-◌, ◌%◌, ◌<◌, ◌≤◌, ◌==◌, if◌then◌else◌}
use Rattle.room_core.specs.Numbers.{clock_scanner, most_gauges, most_passes, scanner_numbers}
use Rattle.room_core.specs.declared.shape.Shape.{Shape}

abbrev pub IsGauge : Shape → ℕ → Type 0
IsGauge shape gauge = gauge < shape.gauges

abbrev pub IsPass : Shape → ℕ → Type 0
IsPass shape pass = pass < shape.passes

-- the shards' scanners are numbered from 0; the clock's scanner always has the number 16
abbrev pub IsScanner : Shape → ℕ → Type 0
IsScanner shape scanner = (scanner < shape.scanners - 1) ⊎ (scanner ≡ clock_scanner)

-- the last gauge is the clock
abbrev pub clock_of : Shape → ℕ
clock_of shape = shape.gauges - 1

-- the scanner that scans a gauge
unfoldable pub scanner_of : Shape → ℕ → ℕ
scanner_of shape gauge = if gauge == clock_of shape then clock_scanner else gauge % (shape.scanners - 1)

-- the gauge is there, and it is the scanner's
pub record IsGaugeOf (shape : Shape) (scanner gauge : ℕ) : Type 0 where
  pub there : IsGauge shape gauge
  pub scans : scanner_of shape gauge ≡ scanner

-- 1 to 193 gauges, 1 to 80 passes, 2 to 17 scanners
pub record IsShape (shape : Shape) : Type 0 where
  pub some_gauges : 0 < shape.gauges
  pub few_gauges : shape.gauges ≤ most_gauges
  pub some_passes : 0 < shape.passes
  pub few_passes : shape.passes ≤ most_passes
  pub some_scanners : 1 < shape.scanners
  pub few_scanners : shape.scanners ≤ scanner_numbers
