use Rattle.std.proofs.Common.{[], ◌∷◌, take}
use Rattle.kanswer.specs.Decisions.{fetch_decisions, fetch_parts}
use Rattle.audit.specs.retelling.Retells.{Retells}
use Rattle.audit.proofs.retelling.accepting.retell_fetch_topic.Given as goal

abbrev pub invariant-loop-asked : goal.invariant-loop-asked
invariant-loop-asked l = Retells l.scene.pasts.now l.scene.points.now (fetch_decisions l.scene.config.now l.replica (fetch_parts (record l.topic { parts = take l.asked-index l.topic.parts } ∷ []))) l.fn.retold l.retold
