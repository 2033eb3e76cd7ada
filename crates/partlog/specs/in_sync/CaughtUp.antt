-- The moment at which a replica had caught up (Kafka's `lastCaughtUpTimeMs`): the greatest that its fetches reach, or 0.
use Rattle.std.specs.Prelude.{ℕ, ◌==◌, List, [], ◌∷◌, ◌++◌, reverse, Option, Some, None, max, fold, nat_le, if◌then◌else◌, option_to_list}
use Rattle.partlog.specs.in_sync.ReplicaEvent.{ReplicaEvent, Appended, Fetched, Left}
use Rattle.partlog.specs.in_sync.LogEnd.{log_end_of}

-- a fetch's moment, and the log end as it came
pub record Fetch : Type 0 where
  pub t : ℕ
  pub log_end : ℕ

-- the last fetch of a replica among these entries, the newest of which is the first
abbrev pub last_fetch_after : List ReplicaEvent → ℕ → Option Fetch
last_fetch_after [] replica = None
last_fetch_after (Appended count ∷ earlier) replica = last_fetch_after earlier replica
last_fetch_after (Fetched other offset t ∷ earlier) replica =
    if other == replica then Some (record { t = t; log_end = log_end_of (reverse earlier) }) else last_fetch_after earlier replica
last_fetch_after (Left other t ∷ earlier) replica = last_fetch_after earlier replica

abbrev pub last_fetch_of : List ReplicaEvent → ℕ → Option Fetch
last_fetch_of events replica = last_fetch_after (reverse events) replica

-- what a fetch from this offset reaches by the fetch before it: the moment of that one, where it asks for all that was there then
abbrev pub reached_by_last : ℕ → Option Fetch → Option ℕ
reached_by_last offset None = None
reached_by_last offset (Some last) = if nat_le last.log_end offset then Some last.t else None

-- the moment that a fetch reaches: its own where it is from the log end, else that of the one before it, or none
abbrev pub reached : ℕ → ℕ → ℕ → Option Fetch → Option ℕ
reached offset t log_end last = if nat_le log_end offset then Some t else reached_by_last offset last

-- the moments that the fetches of a replica reach, where the newest of the entries is the first
abbrev pub moments_after : List ReplicaEvent → ℕ → List ℕ
moments_after [] replica = []
moments_after (Appended count ∷ earlier) replica = moments_after earlier replica
moments_after (Fetched other offset t ∷ earlier) replica =
    if other == replica then moments_after earlier replica ++ option_to_list (reached offset t (log_end_of (reverse earlier)) (last_fetch_after earlier replica))
    else moments_after earlier replica
moments_after (Left other t ∷ earlier) replica = moments_after earlier replica

abbrev pub caught_up_of : List ReplicaEvent → ℕ → ℕ
caught_up_of events replica = fold max 0 (moments_after (reverse events) replica)
