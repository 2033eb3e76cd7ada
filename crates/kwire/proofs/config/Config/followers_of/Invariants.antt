use Rattle.std.proofs.Common.{◌≡◌, ◌<◌, drop, slice_index}
use Rattle.kwire.specs.Configuration.{partitions_of, followers_of}
use Rattle.kwire.proofs.config.Config.followers_of.Given as goal

abbrev pub invariant-loop-topic : goal.invariant-loop-topic
invariant-loop-topic l = record {
  within : l.left < partitions_of (drop l.topic-index l.topic-items);
  so_far : slice_index (followers_of l.topic-items) l.part ≡ slice_index (followers_of (drop l.topic-index l.topic-items)) l.left;
}
