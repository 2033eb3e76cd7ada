-- The clock was told a moment by a pass, which then took out of each partition's in-sync set the followers that lagged at that moment.
use Rattle.std.specs.Prelude.{◌≡◌, ◌≢◌, ◌⊎◌, ℕ, ◌<◌, ◌≤◌, List, Some, slice_get}
use Rattle.partlog.specs.History.{History}
use Rattle.partlog.specs.Lagging.{NoneLags}
use Rattle.partlog.specs.Moment.{moment_of}
use Rattle.audit.specs.broker.books.TakenOut.{HasTakenOut}
use Rattle.shared_logs.specs.Asked.{HasTicked}
use Rattle.shared_logs.specs.Coming.{HasCaughtUp, IsSamePass}
use Rattle.shared_logs.specs.Shared.{LogPassView}

-- The pass went through partitions: of each it saw what others had done, and then took out followers that lagged at this moment. Nothing else
-- is its own behind what it had seen.
pub record HasShrunk (t : ℕ) (old new : LogPassView) : Type 0 where
  pub same : IsSamePass old new
  pub taken : HasTakenOut old.number t old.parts new.parts
  pub clock : new.clock ≡ old.clock
  pub ticked : new.ticked ≡ old.ticked

-- it went through this one alone
pub record HasShrunkOne (part t : ℕ) (old new : LogPassView) : Type 0 where
  pub shrunk : HasShrunk t old new
  pub alone : (p : ℕ) → p ≢ part → slice_get new.parts p ≡ slice_get old.parts p

-- no follower lags at this moment, by what was seen of the partitions
abbrev pub NoPartLags : ℕ → List History → Type 0
NoPartLags t parts = (part : ℕ) (h : History) → slice_get parts part ≡ Some h → NoneLags h.followers h.events t

-- The clock was told a moment. Where that was above the clock's, the pass added the tick, and then took out all who lagged.
pub record HasTold (t : ℕ) (old new : LogPassView) : Type 0 where
  pub between : LogPassView
  pub told : HasTicked t old between
  pub shrunk : HasShrunk t between new
  pub none_lags : moment_of told.found < t → NoPartLags t new.parts
  pub still : t ≤ moment_of told.found → new ≡ between

-- memory ran out once the tick was added, as the pass went through the partitions
pub record HasRisen (t : ℕ) (old new : LogPassView) : Type 0 where
  pub between : LogPassView
  pub told : HasTicked t old between
  pub rose : moment_of told.found < t
  pub shrunk : HasShrunk t between new

-- Memory ran out: before the tick, and then the pass left nothing; or after it.
abbrev pub HasPartlyTold : ℕ → LogPassView → LogPassView → Type 0
HasPartlyTold t old new = HasCaughtUp old new ⊎ HasRisen t old new
