-- Who is in sync with the leader, and the high watermark. The last entry that took a replica out of the set or put it in
-- decides, and at first all are in. Leaving takes a replica out. A fetch from an offset that is at least the high watermark
-- before it puts it in.
use Rattle.std.specs.Prelude.{ℕ, ◌+◌, ◌==◌, Bool, true, false, List, [], ◌∷◌, length, reverse, min, map, filter, fold, nat_le, if◌then◌else◌}
use Rattle.std.specs.List.{range_with_len}
use Rattle.partlog.specs.in_sync.ReplicaEvent.{ReplicaEvent, Appended, Fetched, Left}
use Rattle.partlog.specs.in_sync.LogEnd.{log_end_of}
use Rattle.partlog.specs.in_sync.Position.{position_of}

-- the least of the log end and the positions of those followers for which the test holds
abbrev pub least_among : (ℕ → Bool) → ℕ → List ReplicaEvent → ℕ
least_among test followers events = fold min (log_end_of events) (map (position_of events) (filter test (range_with_len 1 followers)))

-- whether a replica is in sync after these entries, the newest of which is the first; what a fetch is compared with is the high
-- watermark before it
abbrev pub in_sync_after : ℕ → List ReplicaEvent → ℕ → Bool
in_sync_after followers [] replica = true
in_sync_after followers (Appended count ∷ earlier) replica = in_sync_after followers earlier replica
in_sync_after followers (Fetched other offset t ∷ earlier) replica =
    if other == replica then (if nat_le (least_among (in_sync_after followers earlier) followers (reverse earlier)) offset then true else in_sync_after followers earlier replica)
    else in_sync_after followers earlier replica
in_sync_after followers (Left other t ∷ earlier) replica = if other == replica then false else in_sync_after followers earlier replica

-- whether it is after a history
abbrev pub in_sync_of : ℕ → List ReplicaEvent → ℕ → Bool
in_sync_of followers events replica = in_sync_after followers (reverse events) replica

-- the least of the log end and the positions of the followers that are in sync
abbrev pub high_watermark_of : ℕ → List ReplicaEvent → ℕ
high_watermark_of followers events = least_among (in_sync_of followers events) followers events

-- how many are in sync, with the leader
abbrev pub count_of : ℕ → List ReplicaEvent → ℕ
count_of followers events = 1 + length (filter (in_sync_of followers events) (range_with_len 1 followers))
