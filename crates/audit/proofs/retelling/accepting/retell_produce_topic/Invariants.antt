use Rattle.std.proofs.Common.{[], ◌∷◌, take}
use Rattle.audit.specs.retelling.Retells.{RetellsProduce}
use Rattle.audit.proofs.retelling.accepting.retell_produce_topic.Given as goal

abbrev pub invariant-loop-part : goal.invariant-loop-part
invariant-loop-part l = RetellsProduce l.scene.config.now l.terms l.scene.pasts.now l.scene.points.now (record l.topic { parts = take l.part-index l.topic.parts } ∷ []) l.fn.retold l.retold
