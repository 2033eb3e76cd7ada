-- States that are no older than the values that a pass read of the gauges of an operation.
use Rattle.std.specs.Prelude.{◌≡◌, ℕ, ◌<◌, ◌≤◌, List, [], ◌∷◌, length, slice_index, slice_index_or, ⊤}
use Rattle.kanswer.specs.PartitionGauges.{fetched_gauge, high_gauge}
use Rattle.kanswer.specs.Waiting.{gauge_value}
use Rattle.kwire.specs.declared.request.Ask.{Ask}
use Rattle.kwire.specs.declared.request.Ask.TheVariants.{Produce, Fetch, Metadata, Versions}
use Rattle.opcond.specs.declared.need.Need.{Need}
use Rattle.partlog.specs.State.{PartState as State}

-- the gauge of a partition that a request needs
abbrev pub gauge_for : Ask → ℕ → ℕ
gauge_for (Produce version transactional acks timeout topics) = high_gauge
gauge_for (Fetch version replica max_wait min_bytes max_bytes isolation topics) = fetched_gauge replica
gauge_for (Metadata topics) = high_gauge
gauge_for (Versions version) = high_gauge

-- In this state the gauge of the partition is no less than what was read for each need of that gauge.
abbrev pub IsFresh : (ℕ → ℕ) → List Need → List ℕ → ℕ → State → Type 0
IsFresh gauge needs values part state =
    (i : ℕ) (need : Need) → i < length needs → (slice_index_or needs i need).gauge ≡ gauge part → slice_index values i ≤ gauge_value (gauge part) state

-- so is each of these states of its partition, as far as they go
abbrev pub AreFresh : (ℕ → State → Type 0) → List ℕ → List State → Type 0
AreFresh fresh [] states = ⊤
AreFresh fresh (part ∷ parts) [] = ⊤
AreFresh fresh (part ∷ parts) (state ∷ states) = fresh part state × AreFresh fresh parts states
