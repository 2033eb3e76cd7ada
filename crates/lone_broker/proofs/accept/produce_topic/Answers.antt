use Rattle.std.proofs.Common.{◌≡◌, ℕ, List, [], ◌∷◌, length, get_or, refl, ap, subst, ◌∙◌, arith}
use Rattle.kwire.specs.declared.request.ProducePart.{ProducePart}
use Rattle.kwire.specs.declared.request.ProduceTopic.{ProduceTopic}
use Rattle.kanswer.specs.Decisions.{ProduceDecides}
use Rattle.kanswer.proofs.Laws.{produce_next}
use Rattle.lone_broker.proofs.ProduceParts.{produced_none, produced_on, produced_one, carried_size}
use Rattle.lone_broker.proofs.accept.produce_topic.Goals as goal

pub loop-part-init : goal.loop-part-init
loop-part-init c = record {
  size = refl;
  carried = produced_none c.args.call.now.config.now c.args.call.now.terms c.args.call.now.visitor.who.by c.args.call.now.visitor.who.seq c.args.call.now.visitor.moment _ c.args.parts.now c.args.came.now refl;
}

pub loop-part-preserved : goal.loop-part-preserved
loop-part-preserved c =
    let items : c.as_slice-part-items.result.now ≡ c.args.topic.now.parts = c.as_slice-part-items.ensures ∙ ap (λ (t : ProduceTopic). t.parts) c.topic.view_is in
    let d = c.in_ok-produce_one.ensures in
    let i = c.loop-part.part-index in
    let one = produced_one c.args.call.now.config.now c.args.call.now.terms c.args.call.now.visitor.who.by c.args.call.now.visitor.who.seq c.args.call.now.visitor.moment c.args.topic.now.name c.part-item.result d.0 c.loop-part.parts c.produce_one.new.parts c.loop-part.came c.produce_one.new.came (λ id e. subst (λ (name : List ℕ). ProduceDecides c.args.call.now.config.now c.args.call.now.terms.version id c.args.call.now.terms.acks (name, c.part-item.result) d.0) (ap (λ (t : ProduceTopic). t.name) c.topic.view_is) (d.1 id e)) d.2 in
    record {
      size = carried_size c.args.call.now.visitor.who.by c.args.call.now.visitor.who.seq c.args.call.now.visitor.moment (d.0 ∷ []) c.loop-part.parts c.produce_one.new.parts c.loop-part.came c.produce_one.new.came d.2 ∙ c.loop-part.invariant.size;
      carried = produced_on c.args.call.now.config.now c.args.call.now.terms c.args.call.now.visitor.who.by c.args.call.now.visitor.who.seq c.args.call.now.visitor.moment _ _ _ c.args.parts.now c.loop-part.parts c.produce_one.new.parts c.args.came.now c.loop-part.came c.produce_one.new.came (produce_next c.args.topic.now.name c.args.topic.now.parts i c.part-item.result (omega (arith, c.loop-part-test.true, ap length items)) (c.part-item.is ∙ ap (λ (xs : List ProducePart). get_or xs i c.part-item.result) items)) c.loop-part.invariant.carried one;
    }
