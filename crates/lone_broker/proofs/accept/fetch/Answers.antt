use Rattle.std.proofs.Common.{[], ◌∷◌, take, ◌+◌, arith}
use Rattle.kanswer.proofs.Laws.{fetch_next_topic}
use Rattle.lone_broker.proofs.ProduceParts.{fetched_on}
use Rattle.lone_broker.proofs.accept.fetch.Goals as goal

pub loop-topic-preserved : goal.loop-topic-preserved
loop-topic-preserved c =
    let call = c.args.call.now in
    let i = c.loop-topic.topic-index in
    let ts = c.args.topics.now in
    let next = fetch_next_topic ts i c.topic-item.result (omega (arith, c.loop-topic-test.true)) c.topic-item.is in
    record {
      followers = c.in_ok-fetch_topic.ensures.followers;
      carried = fetched_on call.config.now call.replica call.visitor.who.by call.visitor.who.seq call.visitor.moment (take i ts) (c.topic-item.result ∷ []) (take (i + 1) ts) c.args.parts.now c.loop-topic.parts c.fetch_topic.new.parts c.args.came.now c.loop-topic.came c.fetch_topic.new.came next c.loop-topic.invariant.carried c.in_ok-fetch_topic.ensures.carried;
    }
