use Rattle.std.proofs.Common.{◌≡◌, ◌+◌, ◌++◌, drop, length, sum_by}
use Rattle.kanswer.specs.ToldParts.{produced_of}
use Rattle.kanswer.proofs.produced.produced_topics.Given as goal

abbrev pub invariant-loop-topic : goal.invariant-loop-topic
invariant-loop-topic l = record {
  room : l.from + sum_by (λ topic. length topic.parts) (drop l.topic-index l.topics) ≡ length l.accepted;
  told : l.told ++ produced_of l.produce.config.now l.produce.acks (drop l.topic-index l.topics) (drop l.from l.accepted) (drop l.from l.readings) ≡ produced_of l.produce.config.now l.produce.acks l.topics l.accepted l.readings;
}
