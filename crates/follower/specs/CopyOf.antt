-- Copies of one log: what they are, and what comes of them.
use Rattle.std.specs.Prelude.{◌≡◌, ℕ, List, ◌++◌}
use Rattle.follower.specs.Copies.{Copy}
use Rattle.follower.specs.Logs.{FollowOn, joined}

-- the copy has the first so many of these batches, up to its end
pub record IsCopyOf (batches : List (List ℕ)) (copy : Copy) : Type 0 where
  pub front : List (List ℕ)
  pub back : List (List ℕ)
  pub parts : batches ≡ front ++ back
  pub log : copy.log ≡ joined front
  pub each : FollowOn 0 front copy.end

-- records that are some of these batches, one after the other, from anywhere among them
pub record IsRunOf (batches : List (List ℕ)) (records : List ℕ) : Type 0 where
  pub before : List (List ℕ)
  pub run : List (List ℕ)
  pub after : List (List ℕ)
  pub parts : batches ≡ before ++ (run ++ after)
  pub bytes : records ≡ joined run
