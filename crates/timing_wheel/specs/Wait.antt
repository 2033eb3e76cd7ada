use Rattle.std.specs.Prelude.{◌≡◌, ℕ, ◌+◌, ◌*◌, ◌/◌, ◌^◌, ◌<◌, ◌≤◌, ◌⊎◌, List, Option, Some, None, slice_index_or}
use Rattle.timing_wheel.specs.declared.place.Place.{Place}
use Rattle.timing_wheel.specs.declared.timer.Timer.{Timer}
use Rattle.timing_wheel.specs.Place.{level_of, span_of, place_of}

-- the deadline is past the moment of putting, by less than 2^31 milliseconds
pub record IsNear (timer : Timer) : Type 0 where
  pub past : timer.put < timer.deadline
  pub near : timer.deadline < timer.put + 2 ^ 31

-- a near entry that was put by this moment, and whose bucket starts later
pub record Waits (moment : ℕ) (timer : Timer) : Type 0 where
  pub near : IsNear timer
  pub was_put : timer.put ≤ moment
  pub ahead : moment / span_of timer < timer.deadline / span_of timer

-- a near entry that was put by this moment, and whose bucket has started
pub record HasCome (moment : ℕ) (timer : Timer) : Type 0 where
  pub near : IsNear timer
  pub was_put : timer.put ≤ moment
  pub started : timer.deadline / span_of timer ≤ moment / span_of timer

-- each entry waits
unfoldable pub AllWait : ℕ → List (Option Timer) → Type 0
AllWait moment slots = (id : ℕ) (timer : Timer) → slice_index_or slots id None ≡ Some timer → Waits moment timer

-- in a turn from one moment to a later one that has done the levels below one: those entries wait at the later moment
abbrev pub IsTurnedBelow : ℕ → ℕ → ℕ → Timer → Type 0
IsTurnedBelow level now t timer = ((level ≤ level_of timer) × Waits now timer) ⊎ ((level_of timer < level) × Waits t timer)

-- that of each entry
unfoldable pub AllTurnedBelow : ℕ → ℕ → ℕ → List (Option Timer) → Type 0
AllTurnedBelow level now t slots =
    (id : ℕ) (timer : Timer) → slice_index_or slots id None ≡ Some timer → IsTurnedBelow level now t timer

-- the buckets of all levels, one after another
abbrev pub number_of : Place → ℕ
number_of place = 20 * place.level + place.bucket

-- the number of the bucket of an entry
unfoldable pub bucket_of : Option Timer → Option ℕ
bucket_of None = None
bucket_of (Some timer) = Some (number_of (place_of timer))
