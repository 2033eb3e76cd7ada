use Rattle.std.proofs.Common.{take}
use Rattle.audit.specs.retelling.Retells.{RetellsProduce}
use Rattle.audit.proofs.retelling.accepting.retell_produce.Given as goal

abbrev pub invariant-loop-topic : goal.invariant-loop-topic
invariant-loop-topic l = RetellsProduce l.scene.config.now l.terms l.scene.pasts.now l.scene.points.now (take l.topic-index l.topics) l.fn.retold l.retold
