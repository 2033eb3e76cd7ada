-- A description is a table of words: the least tally, the deadline, the number of needs, and of each need its gauge, start
-- and cap.
use Rattle.std.specs.Prelude.{◌≡◌, ◌≢◌, ◌⊎◌, ℕ, zero, suc, ◌+◌, ◌*◌, ◌^◌, ◌<◌, ◌≤◌, ◌==◌, if◌then◌else◌}
use Rattle.room_core.specs.Numbers.{most_needs, clock_mark}
use Rattle.opcond.specs.declared.need.Need.{Need}
use Rattle.opcond.specs.Tally.{counted}
use Rattle.room_core.specs.declared.shape.Shape.{Shape}
use Rattle.room_core.specs.Gauges.{clock_of}

-- the places of the words: of the whole, and of the need with this number
abbrev pub least_word : ℕ
least_word = 0

abbrev pub deadline_word : ℕ
deadline_word = 1

abbrev pub needs_word : ℕ
needs_word = 2

abbrev pub gauge_word : ℕ → ℕ
gauge_word i = 3 + 3 * i

abbrev pub start_word : ℕ → ℕ
start_word i = 4 + 3 * i

abbrev pub cap_word : ℕ → ℕ
cap_word i = 5 + 3 * i

abbrev pub least_of : (ℕ → ℕ) → ℕ
least_of words = words least_word

abbrev pub deadline_of : (ℕ → ℕ) → ℕ
deadline_of words = words deadline_word

abbrev pub needs_of : (ℕ → ℕ) → ℕ
needs_of words = words needs_word

-- the gauge of a need
abbrev pub gauge_of : (ℕ → ℕ) → ℕ → ℕ
gauge_of words i = words (gauge_word i)

abbrev pub need_of : (ℕ → ℕ) → ℕ → Need
need_of words i = record { gauge = words (gauge_word i); start = words (start_word i); cap = words (cap_word i) }

-- at most 64 needs, of distinct gauges, each there and not the clock; the caps and the least tally below 2^31
pub record IsOperation (shape : Shape) (words : ℕ → ℕ) : Type 0 where
  pub few : needs_of words ≤ most_needs
  pub gauges : (i : ℕ) → i < needs_of words → gauge_of words i < clock_of shape
  pub distinct : (i j : ℕ) → i < j → j < needs_of words → gauge_of words i ≢ gauge_of words j
  pub caps : (i : ℕ) → i < needs_of words → words (cap_word i) < 2 ^ 31
  pub least : least_of words < 2 ^ 31

-- the sum, over the first needs, of what counts of the gauges' values
unfoldable pub tally_below : (ℕ → ℕ) → (ℕ → ℕ) → ℕ → ℕ
tally_below words value zero = 0
tally_below words value (suc n) = tally_below words value n + counted (need_of words n) (value (gauge_of words n))

-- the tally at these values of the gauges
abbrev pub tally : (ℕ → ℕ) → (ℕ → ℕ) → ℕ
tally words value = tally_below words value (needs_of words)

abbrev pub IsSatisfied : (ℕ → ℕ) → (ℕ → ℕ) → Type 0
IsSatisfied words value = least_of words ≤ tally words value

abbrev pub IsOverdue : (ℕ → ℕ) → ℕ → Type 0
IsOverdue words moment = deadline_of words ≤ moment

-- the number of a mark: a need's, or 64 for the clock's
abbrev pub IsMark : (ℕ → ℕ) → ℕ → Type 0
IsMark words i = (i < needs_of words) ⊎ (i ≡ clock_mark)

-- the gauge under which the operation is listed for a mark
unfoldable pub marked_gauge : Shape → (ℕ → ℕ) → ℕ → ℕ
marked_gauge shape words i = if i == clock_mark then clock_of shape else gauge_of words i
