-- What the index is told of a partition whose numbers changed.
use Rattle.std.specs.Prelude.{ℕ, ◌≡◌, ◌≢◌, ◌⊎◌, List, Option, length}
use Rattle.partlog.specs.History.{History}
use Rattle.partlog.specs.declared.numbers.Numbers.{Numbers}
use Rattle.audit.specs.declared.account.Point.{Point}
use Rattle.kanswer.specs.PartitionGauges.{partition_of}
use Rattle.kanswer.specs.Reached.{gauge_in}
use Rattle.lone_broker.specs.index.Index.{Index, IsSuspect, WaitsFor, moment_of}
use Rattle.lone_broker.specs.index.Waiting.{WaitsOn}
use Rattle.lone_broker.specs.Steps.{HasPart}
use Rattle.lone_broker.specs.Watching.{AreWatched, numbers_now, told_at}
use Rattle.lone_broker.specs.declared.parked.Parked.{Parked}

-- every session still waits, and there are only more suspects
pub record IsWarned (before after : Index) : Type 0 where
  pub moment : moment_of after ≡ moment_of before
  pub waits : (session : ℕ) → WaitsOn before after session
  pub more : (session : ℕ) → IsSuspect before session → IsSuspect after session

-- a session that waits for a gauge of the partition whose value differs in these numbers is a suspect
abbrev pub AreWarned : ℕ → Numbers → Numbers → Index → Index → Type 0
AreWarned part was now before after =
    (gauge session : ℕ) → partition_of gauge ≡ part → gauge_in gauge was ≢ gauge_in gauge now → WaitsFor before session gauge → IsSuspect after session

-- the index was told the numbers of this partition, and of no other
pub record IsToldOf (parts : List History) (part : ℕ) (told later : List Numbers) : Type 0 where
  pub size : length later ≡ length told
  pub said : told_at later part ≡ numbers_now parts part
  pub others : (other : ℕ) → other ≢ part → told_at later other ≡ told_at told other

-- the index was told the numbers of the partitions at these points, and of any other partition nothing or the numbers that it has
pub record AreToldOf (parts : List History) (points : List Point) (told later : List Numbers) : Type 0 where
  pub size : length later ≡ length told
  pub said : (part : ℕ) → HasPart part points → told_at later part ≡ numbers_now parts part
  pub still : (part : ℕ) → (told_at later part ≡ told_at told part) ⊎ (told_at later part ≡ numbers_now parts part)

-- what was watched is still watched
abbrev pub StayWatched : Index → List Numbers → Index → List Numbers → Type 0
StayWatched index told next later = (parked : ℕ → Option Parked) → AreWatched index told parked → AreWatched next later parked
