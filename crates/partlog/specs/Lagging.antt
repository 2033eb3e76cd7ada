-- Who lags by a partition's history.
use Rattle.std.specs.Prelude.{◌≡◌, ℕ, ◌≤◌, ℤ, pos, negsuc, List, Some, take, slice_get}
use Rattle.partlog.specs.in_sync.Lagging.{Lags}
use Rattle.partlog.specs.declared.event.PartEvent.{PartEvent}
use Rattle.partlog.specs.declared.event.PartEvent.TheVariants.{Shrink}
use Rattle.partlog.specs.Replicas.{replica_events}

-- this replica lags at this moment
abbrev pub LagsAt : ℕ → List PartEvent → ℕ → ℤ → Type 0
LagsAt followers events t (pos replica) = Lags followers (replica_events events) t replica
LagsAt followers events t (negsuc n) = ⊥

-- this is the least of those that lag
pub record IsLeastLate (followers : ℕ) (events : List PartEvent) (t replica : ℕ) : Type 0 where
  pub lags : Lags followers (replica_events events) t replica
  pub least : (other : ℕ) → Lags followers (replica_events events) t other → replica ≤ other

-- none lags
abbrev pub NoneLags : ℕ → List PartEvent → ℕ → Type 0
NoneLags followers events t = (replica : ℕ) → Lags followers (replica_events events) t replica → ⊥

-- whoever was taken out lagged at that moment, by the entries before
abbrev pub LeftLate : ℕ → List PartEvent → Type 0
LeftLate followers events = (place by t : ℕ) (replica : ℤ) → slice_get events place ≡ Some (Shrink by replica t) → LagsAt followers (take place events) t replica
