use Rattle.std.proofs.Common.{◌≡◌, map, take}
use Rattle.kanswer.specs.Answer.{asked_parts}
use Rattle.audit.proofs.retelling.rereading.all_asked.Given as goal

abbrev pub invariant-loop-topic : goal.invariant-loop-topic
invariant-loop-topic l = map (λ asked. asked.now) l.all ≡ asked_parts (take l.topic-index l.topics)
