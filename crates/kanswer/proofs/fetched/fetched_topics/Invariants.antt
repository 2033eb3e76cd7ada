use Rattle.std.proofs.Common.{◌≡◌, ◌+◌, ◌++◌, drop, length, sum_by}
use Rattle.kanswer.specs.ToldParts.{fetched_of}
use Rattle.kanswer.proofs.fetched.fetched_topics.Given as goal

abbrev pub invariant-loop-topic : goal.invariant-loop-topic
invariant-loop-topic l = record {
  room : l.from + sum_by (λ topic. length topic.parts) (drop l.topic-index l.topics) ≡ length l.accepted;
  told : l.told ++ fetched_of (drop l.topic-index l.topics) (drop l.from l.accepted) (drop l.from l.readings) ≡ fetched_of l.topics l.accepted l.readings;
}
