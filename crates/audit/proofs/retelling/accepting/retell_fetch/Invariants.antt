use Rattle.std.proofs.Common.{take}
use Rattle.kanswer.specs.Decisions.{fetch_decisions, fetch_parts}
use Rattle.audit.specs.retelling.Retells.{Retells}
use Rattle.audit.proofs.retelling.accepting.retell_fetch.Given as goal

abbrev pub invariant-loop-topic : goal.invariant-loop-topic
invariant-loop-topic l = Retells l.scene.pasts.now l.scene.points.now (fetch_decisions l.scene.config.now l.replica (fetch_parts (take l.topic-index l.topics))) l.fn.retold l.retold
