use Rattle.std.proofs.Common.{Contains, take}
use Rattle.kwire.specs.Configuration.{names_of}
use Rattle.kwire.proofs.config.is_declared.Given as goal

-- none of the topics so far has the name
abbrev pub invariant-loop-topic : goal.invariant-loop-topic
invariant-loop-topic l = ¬ Contains (names_of (take l.topic-index l.topics)) l.name
