-- The replicas of a partition that follow it: those from 1 on, one for each follower. The replica 0 is the leader.
use Rattle.std.specs.Prelude.{ℕ, ◌<◌, ◌≤◌, ℤ, pos, negsuc}

abbrev pub IsFollower : ℤ → ℕ → Type 0
IsFollower (pos replica) followers = (0 < replica) × (replica ≤ followers)
IsFollower (negsuc n) followers = ⊥
