-- What happens to the replicas of a partition. A history is a list of these, the oldest first. Followers are numbered from 1.
use Rattle.std.specs.Prelude.{ℕ}

pub data ReplicaEvent : Type 0 where
  -- so many records were put at the log's end
  Appended : ℕ → ReplicaEvent
  -- this follower fetched from this offset at this moment, in milliseconds
  Fetched : ℕ → ℕ → ℕ → ReplicaEvent
  -- this follower was taken out of the set at this moment
  Left : ℕ → ℕ → ReplicaEvent
