-- What a scanner keeps of its present meeting.
use Rattle.std.specs.Prelude.{◌≡◌, ℕ, ◌<◌, List, Option, Some, length, slice_index}
use Rattle.room_core.specs.declared.shape.Shape.{Shape}
use Rattle.room_core.specs.Gauges.{IsShape, IsScanner}
use Rattle.room_core.specs.Meetings.{IsLearned}
use Rattle.room_core.specs.Numbers.{description_words}
use Rattle.room_core.specs.State.{Scanner}
use Rattle.room_table.specs.Seats.{ScanView, scanner_now}

-- what is known of a place stands there in the list
abbrev pub Mirrors : (ℕ → Option ℕ) → List ℕ → Type 0
Mirrors known kept = (i value : ℕ) → known i ≡ Some value → slice_index kept i ≡ value

-- The words that it learned stand in their places, and the values that it read under their gauges. Its count is that of its wins.
pub record IsInspector (shape : Shape) (number : ℕ) (words values : List ℕ) (wins : ℕ) (seat : ScanView) : Type 0 where
  pub shape_is : shape ≡ seat.table.shape
  pub number_is : number ≡ seat.scanner
  pub is_shape : IsShape shape
  pub is_scanner : IsScanner shape number
  pub words_size : length words ≡ description_words
  pub values_size : length values ≡ shape.gauges
  pub learned : Mirrors (scanner_now seat).learned words
  pub read : Mirrors (scanner_now seat).readings values
  pub count : wins ≡ length (scanner_now seat).wins

-- the scanner's words below a place are learned
abbrev pub AreLearnedBelow : Scanner → ℕ → Type 0
AreLearnedBelow scanner to = (at : ℕ) → at < to → IsLearned scanner at
