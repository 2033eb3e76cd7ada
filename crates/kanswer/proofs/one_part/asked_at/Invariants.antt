use Rattle.std.proofs.Common.{◌≡◌, drop}
use Rattle.std.specs.List.{slice_get}
use Rattle.kanswer.specs.Answer.{asked_parts}
use Rattle.kanswer.proofs.one_part.asked_at.Given as goal

abbrev pub invariant-loop-topic : goal.invariant-loop-topic
invariant-loop-topic l = slice_get (asked_parts (drop l.topic-index l.topics)) l.left ≡ slice_get (asked_parts l.topics) l.at
