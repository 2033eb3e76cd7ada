-- Topics as they may be declared: at most 64 partitions over all, so that none has the number of the clock's history.
use Rattle.std.specs.Prelude.{◌+◌, ◌<◌, ◌≤◌, List, length}
use Rattle.std.specs.List.{AllByRecursion}
use Rattle.kwire.specs.declared.config.Topic.{Topic}
use Rattle.kwire.specs.declared.config.TheConstants.{MOST_NAME_BYTES, MOST_PARTITIONS, MOST_FOLLOWERS}
use Rattle.kwire.specs.Configuration.{partitions_of}

abbrev pub IsDeclared : Topic → Type 0
IsDeclared topic = (length topic.name ≤ MOST_NAME_BYTES) × (0 < topic.partitions) × (topic.followers ≤ MOST_FOLLOWERS)
    × (0 < topic.min_insync) × (topic.min_insync ≤ topic.followers + 1)

pub record AreDeclared (topics : List Topic) : Type 0 where
  pub each : AllByRecursion IsDeclared topics
  pub few : partitions_of topics ≤ MOST_PARTITIONS
