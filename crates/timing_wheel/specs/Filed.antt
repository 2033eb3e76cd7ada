use Rattle.std.specs.Prelude.{◌≡◌, ℕ, ◌^◌, ◌<◌, ◌≤◌, List, Option, Some, None, map, length, slice_index, slice_index_or}
use Rattle.timing_wheel.specs.declared.timer.Timer.{Timer}
use Rattle.timing_wheel.specs.Place.{level_of}
use Rattle.timing_wheel.specs.Timers.{listed}
use Rattle.timing_wheel.specs.Turn.{bucket_start}
use Rattle.timing_wheel.specs.Wait.{bucket_of}

-- no bucket of a level that holds an entry starts before this moment
unfoldable pub StartFrom : ℕ → ℕ → List (Option Timer) → Type 0
StartFrom level start slots =
    (id : ℕ) (timer : Timer) → slice_index_or slots id None ≡ Some timer → level_of timer ≡ level → start ≤ bucket_start timer

-- each entry stands in the bucket of its place, the entries are counted, and each level has a moment before which none of its buckets
-- that holds an entry starts
pub record IsFiled (slots : List (Option Timer)) (buckets : List (Option ℕ)) (count : ℕ) (starts : List ℕ) : Type 0 where
  pub filed : buckets ≡ map bucket_of slots
  pub counted : count ≡ listed slots
  pub fits : length slots < 2 ^ 32
  pub levels : length starts ≡ 8
  pub start : (level : ℕ) → level < 8 → StartFrom level (slice_index starts level) slots
