use Rattle.std.proofs.Common.{◌≡◌, map, take}
use Rattle.audit.specs.broker.Board.{empty_history}
use Rattle.kwire.specs.Configuration.{followers_of}
use Rattle.lone_broker.proofs.opening.open_parts.Given as goal

abbrev pub invariant-loop-topic : goal.invariant-loop-topic
invariant-loop-topic l = l.parts ≡ map empty_history (followers_of (take l.topic-index l.topic-items))
