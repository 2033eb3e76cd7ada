use Rattle.std.proofs.Common.{[], ◌∷◌, refl, ◌∙◌, arith}
use Rattle.kanswer.proofs.Laws.{produce_next_topic}
use Rattle.lone_broker.proofs.ProduceParts.{produced_none, produced_on}
use Rattle.lone_broker.proofs.accept.produce.Goals as goal

pub loop-topic-init : goal.loop-topic-init
loop-topic-init c = record {
  size = refl;
  carried = produced_none c.args.call.now.config.now c.args.call.now.terms c.args.call.now.visitor.who.by c.args.call.now.visitor.who.seq c.args.call.now.visitor.moment _ c.args.parts.now c.args.came.now refl;
}

pub loop-topic-preserved : goal.loop-topic-preserved
loop-topic-preserved c =
    let d = c.in_ok-produce_topic.ensures in
    record {
      size = d.size ∙ c.loop-topic.invariant.size;
      carried = produced_on c.args.call.now.config.now c.args.call.now.terms c.args.call.now.visitor.who.by c.args.call.now.visitor.who.seq c.args.call.now.visitor.moment _ (c.topic-item.result ∷ []) _ c.args.parts.now c.loop-topic.parts c.produce_topic.new.parts c.args.came.now c.loop-topic.came c.produce_topic.new.came (produce_next_topic c.args.topics.now c.loop-topic.topic-index c.topic-item.result (omega (arith, c.loop-topic-test.true)) c.topic-item.is) c.loop-topic.invariant.carried d.carried;
    }
