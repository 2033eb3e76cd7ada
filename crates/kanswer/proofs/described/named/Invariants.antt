use Rattle.std.proofs.Common.{◌≡◌, drop}
use Rattle.kanswer.specs.Answer.{info_of}
use Rattle.kanswer.proofs.described.named.Given as goal

abbrev pub invariant-loop-topic : goal.invariant-loop-topic
invariant-loop-topic l = info_of (drop l.topic-index l.topics) l.name ≡ info_of l.topics l.name
