-- The position of a replica is the greatest offset of its fetches, or 0.
use Rattle.std.specs.Prelude.{ℕ, ◌==◌, List, Option, Some, None, max, map, fold, if◌then◌else◌}
use Rattle.std.specs.List.{filter_map, range_with_len}
use Rattle.partlog.specs.in_sync.ReplicaEvent.{ReplicaEvent, Appended, Fetched, Left}

-- the offset that this replica fetched from
abbrev pub offset_by : ℕ → ReplicaEvent → Option ℕ
offset_by replica (Appended count) = None
offset_by replica (Fetched other offset t) = if other == replica then Some offset else None
offset_by replica (Left other t) = None

abbrev pub position_of : List ReplicaEvent → ℕ → ℕ
position_of events replica = fold max 0 (filter_map (offset_by replica) events)

-- those of all followers, from the first on
abbrev pub positions_of : ℕ → List ReplicaEvent → List ℕ
positions_of followers events = map (position_of events) (range_with_len 1 followers)
