use Rattle.std.proofs.Common.{◌≡◌, ◌++◌, take}
use Rattle.std.specs.Prelude.{replicate}
use Rattle.kwire.specs.Configuration.{followers_of}
use Rattle.shared_broker.proofs.broker.followers_of.Given as goal

abbrev pub invariant-loop-part : goal.invariant-loop-part
invariant-loop-part l = l.followers ≡ followers_of (take l.topic-index l.topic-items) ++ replicate l._part l.topic.followers

abbrev pub invariant-loop-topic : goal.invariant-loop-topic
invariant-loop-topic l = l.followers ≡ followers_of (take l.topic-index l.topic-items)
