use Rattle.std.proofs.Common.{◌≡◌, ◌+◌, ℕ, List, [], ◌∷◌, length, get_or, take, refl, ap, subst, ◌∙◌, arith}
use Rattle.kwire.specs.declared.request.ProducePart.{ProducePart}
use Rattle.kwire.specs.declared.request.ProduceTopic.{ProduceTopic}
use Rattle.kanswer.proofs.Laws.{produce_next}
use Rattle.audit.specs.retelling.Retells.{RetellsProduce}
use Rattle.audit.proofs.retelling.ByPoints.{produced_none, produced_on}
use Rattle.audit.proofs.retelling.accepting.retell_produce_topic.Goals as goal

pub loop-part-init : goal.loop-part-init
loop-part-init c =
    produced_none c.args.scene.now.config.now c.args.terms c.args.scene.now.pasts.now c.args.scene.now.points.now (record { name = c.args.topic.now.name; parts = [] } ∷ []) c.args.retold.now refl

pub loop-part-preserved : goal.loop-part-preserved
loop-part-preserved c =
    let topic = c.args.topic.now in
    let items : c.as_slice-part-items.result.now ≡ topic.parts = c.as_slice-part-items.ensures ∙ ap (λ (t : ProduceTopic). t.parts) c.topic.view_is in
    let i = c.loop-part.part-index in
    let config = c.args.scene.now.config.now in
    let pasts = c.args.scene.now.pasts.now in
    let points = c.args.scene.now.points.now in
    let one = subst (λ (name : List ℕ). RetellsProduce config c.args.terms pasts points (record { name = name; parts = c.part-item.result ∷ [] } ∷ []) c.loop-part.retold c.retell_produce_part.new.retold)
    (ap (λ (t : ProduceTopic). t.name) c.topic.view_is) c.in_ok-retell_produce_part.ensures in
    produced_on config c.args.terms pasts points (record { name = topic.name; parts = take i topic.parts } ∷ []) (record { name = topic.name; parts = c.part-item.result ∷ [] } ∷ []) (record { name = topic.name; parts = take (i + 1) topic.parts } ∷ [])
    c.args.retold.now c.loop-part.retold c.retell_produce_part.new.retold
    (produce_next topic.name topic.parts i c.part-item.result (omega (arith, c.loop-part-test.true, ap length items)) (c.part-item.is ∙ ap (λ (xs : List ProducePart). get_or xs i c.part-item.result) items)) c.loop-part.invariant one
