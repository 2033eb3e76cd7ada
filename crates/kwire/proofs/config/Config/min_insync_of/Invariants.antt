use Rattle.std.proofs.Common.{◌≡◌, drop}
use Rattle.kwire.specs.Configuration.{min_insync_at}
use Rattle.kwire.proofs.config.Config.min_insync_of.Given as goal

abbrev pub invariant-loop-topic : goal.invariant-loop-topic
invariant-loop-topic l = min_insync_at l.topic-items l.part ≡ min_insync_at (drop l.topic-index l.topic-items) l.left
