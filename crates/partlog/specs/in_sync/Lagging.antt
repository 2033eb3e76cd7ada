-- A follower lags at a moment where it is in sync, hasn't fetched all, and had caught up 30,000 milliseconds before or
-- earlier (Kafka's `replica.lag.time.max.ms`).
use Rattle.std.specs.Prelude.{ℕ, ◌+◌, ◌<◌, ◌≤◌, ◌&&◌, Bool, IsTrue, List, nat_lt, nat_le}
use Rattle.partlog.specs.declared.in_sync.limits.TheConstants.{MOST_LAG}
use Rattle.partlog.specs.in_sync.ReplicaEvent.{ReplicaEvent}
use Rattle.partlog.specs.in_sync.LogEnd.{log_end_of}
use Rattle.partlog.specs.in_sync.Position.{position_of}
use Rattle.partlog.specs.in_sync.InSync.{in_sync_of}
use Rattle.partlog.specs.in_sync.CaughtUp.{caught_up_of}

-- one of this many followers
abbrev pub IsFollower : ℕ → ℕ → Type 0
IsFollower replica followers = (0 < replica) × (replica ≤ followers)

pub record Lags (followers : ℕ) (events : List ReplicaEvent) (t replica : ℕ) : Type 0 where
  pub follower : IsFollower replica followers
  pub in_sync : IsTrue (in_sync_of followers events replica)
  pub behind : position_of events replica < log_end_of events
  pub late : caught_up_of events replica + MOST_LAG ≤ t

-- the same as a test, which asks of a follower
abbrev pub lags : ℕ → List ReplicaEvent → ℕ → ℕ → Bool
lags followers events t replica =
    in_sync_of followers events replica && (nat_lt (position_of events replica) (log_end_of events) && nat_le (caught_up_of events replica + MOST_LAG) t)
