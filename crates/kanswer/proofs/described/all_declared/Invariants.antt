use Rattle.std.proofs.Common.{◌≡◌, Some, map, take}
use Rattle.kanswer.specs.Answer.{info_as}
use Rattle.kanswer.proofs.described.all_declared.Given as goal

abbrev pub invariant-loop-topic : goal.invariant-loop-topic
invariant-loop-topic l = l.infos ≡ map (λ topic. info_as topic.name (Some topic)) (take l.topic-index l.topics)
