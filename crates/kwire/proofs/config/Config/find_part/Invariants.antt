use Rattle.std.proofs.Common.{◌≡◌, pos, take, drop}
use Rattle.kwire.specs.Configuration.{partitions_of, part_from}
use Rattle.kwire.proofs.config.Config.find_part.Given as goal

abbrev pub invariant-loop-topic : goal.invariant-loop-topic
invariant-loop-topic l = record {
  sum : l.before ≡ partitions_of (take l.topic-index l.topic-items);
  so_far : part_from 0 l.topic-items l.name (pos l.number) ≡ part_from l.before (drop l.topic-index l.topic-items) l.name (pos l.number);
}
