-- What holds of every copy.
use Rattle.std.specs.Prelude.{◌≤◌, ◌≤ℤ◌, pos, length, FitsSigned}
use Rattle.std.specs.Int.{w32}
use Rattle.kwire.specs.declared.config.TheConstants.{MOST_NAME_BYTES}
use Rattle.partlog.specs.declared.part_log.TheConstants.{MOST_LOG_BYTES}
use Rattle.follower.specs.Copies.{Copy}
use Rattle.follower.specs.Logs.{IsLog}

pub record IsKept (copy : Copy) : Type 0 where
  pub named : length copy.topic ≤ MOST_NAME_BYTES
  pub numbered : pos 1 ≤ℤ copy.id
  pub fits : FitsSigned w32 copy.id
  pub index : FitsSigned w32 copy.index
  pub batches : IsLog copy.log copy.end
  pub most : length copy.log ≤ MOST_LOG_BYTES
  pub dense : copy.end ≤ length copy.log
  pub high : copy.high ≤ copy.end
