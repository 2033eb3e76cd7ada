use Rattle.std.proofs.Common.{◌≡◌, ◌+◌, take, drop, length, sum_by}
use Rattle.std.specs.List.{flat_map}
use Rattle.kwire.proofs.Laws.{Put}
use Rattle.kanswer.specs.ToldParts.{topics_by, topic_fields}
use Rattle.kanswer.proofs.told_topics.put_topics.Given as goal

abbrev pub invariant-loop-topic : goal.invariant-loop-topic
invariant-loop-topic g l = record {
  room : l.from + sum_by (λ topic. length (g.A.Answered.parts topic)) (drop l.topic-index l.topics) ≡ sum_by (λ topic. length (g.A.Answered.parts topic)) l.topics;
  put : Put l.fn.out l.out (flat_map (λ fields. fields) (take l.topic-index (topics_by (λ topic. length (g.A.Answered.parts topic)) (topic_fields g.A.Answered.name g.A.Answered.parts (g.A.Answered.told l.answered) (g.A.Answered.told_fields l.answered)) l.topics l.accepted l.readings)));
}
