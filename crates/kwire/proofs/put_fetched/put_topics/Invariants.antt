use Rattle.std.proofs.Common.{take}
use Rattle.std.specs.List.{flat_map}
use Rattle.kwire.specs.Spelling.{fetched_topic_fields}
use Rattle.kwire.proofs.Spelled.{Put}
use Rattle.kwire.proofs.put_fetched.put_topics.Given as goal

abbrev pub invariant-loop-topic : goal.invariant-loop-topic
invariant-loop-topic l = Put l.fn.out l.out (flat_map (fetched_topic_fields l.version l.isolation) (take l.topic-index l.topics))
