use Rattle.std.proofs.Common.{[], ◌∷◌, ◌+◌, take, refl, arith}
use Rattle.kanswer.proofs.Laws.{produce_next_topic}
use Rattle.audit.proofs.retelling.ByPoints.{produced_none, produced_on}
use Rattle.audit.proofs.retelling.accepting.retell_produce.Goals as goal

pub loop-topic-init : goal.loop-topic-init
loop-topic-init c = produced_none c.args.scene.now.config.now c.args.terms c.args.scene.now.pasts.now c.args.scene.now.points.now [] c.args.retold.now refl

pub loop-topic-preserved : goal.loop-topic-preserved
loop-topic-preserved c =
    let ts = c.args.topics.now in
    let i = c.loop-topic.topic-index in
    produced_on c.args.scene.now.config.now c.args.terms c.args.scene.now.pasts.now c.args.scene.now.points.now (take i ts) (c.topic-item.result ∷ []) (take (i + 1) ts)
    c.args.retold.now c.loop-topic.retold c.retell_produce_topic.new.retold (produce_next_topic ts i c.topic-item.result (omega (arith, c.loop-topic-test.true)) c.topic-item.is) c.loop-topic.invariant c.in_ok-retell_produce_topic.ensures
