use Rattle.std.proofs.Common.{◌≡◌, ◌+◌, ◌-◌, length, ap, arith}
use Rattle.kwire.proofs.Laws.{put_item, put_all, in_range_item}
use Rattle.kanswer.specs.ToldParts.{topics_by, topic_fields}
use Rattle.kanswer.proofs.ToldAt.{topics_length, topic_at, topic_room}
use Rattle.kanswer.proofs.told_topics.put_topics.Goals as goal

pub put_topic-requires-clause-in_range : goal.put_topic-requires-clause-in_range
put_topic-requires-clause-in_range g c =
    let parts = g.A.Answered.parts in
    let each = topic_fields g.A.Answered.name parts (g.A.Answered.told c.args.answered.now) (g.A.Answered.told_fields c.args.answered.now) in
    let from = c.loop-topic.from in
    let told = topics_by (λ topic. length (g.A.Answered.parts topic)) each c.args.topics.now c.args.accepted.now c.args.readings.now in
    let all = topics_length parts each c.args.topics.now c.args.accepted.now c.args.readings.now in
    let width : from + length c.parts.result.now - from ≡ length (parts c.topic-item.result) = omega (arith, ap length c.parts.ensures) in
    let is = topic_at parts each c.args.topics.now c.args.accepted.now c.args.readings.now c.loop-topic.topic-index from _ _ c.loop-topic-test.true c.topic-item.is width c.loop-topic.invariant.room in
    in_range_item (λ fields. fields) told c.loop-topic.topic-index _ (omega (arith, all, c.loop-topic-test.true)) is c.requires.in_range

pub loop-topic-preserved : goal.loop-topic-preserved
loop-topic-preserved g c =
    let parts = g.A.Answered.parts in
    let each = topic_fields g.A.Answered.name parts (g.A.Answered.told c.args.answered.now) (g.A.Answered.told_fields c.args.answered.now) in
    let from = c.loop-topic.from in
    let lt = c.loop-topic-test.true in
    let was = c.loop-topic.invariant in
    let told = topics_by (λ topic. length (g.A.Answered.parts topic)) each c.args.topics.now c.args.accepted.now c.args.readings.now in
    let all = topics_length parts each c.args.topics.now c.args.accepted.now c.args.readings.now in
    let width : from + length c.parts.result.now - from ≡ length (parts c.topic-item.result) = omega (arith, ap length c.parts.ensures) in
    let is = topic_at parts each c.args.topics.now c.args.accepted.now c.args.readings.now c.loop-topic.topic-index from _ _ lt c.topic-item.is width was.room in
    record {
      room = topic_room parts c.args.topics.now c.loop-topic.topic-index from _ _ lt c.topic-item.is (ap length c.parts.ensures) was.room;
      put = put_item (λ fields. fields) c.args.out.now c.loop-topic.out c.put_topic.new.out told c.loop-topic.topic-index _ (omega (arith, all, lt)) is was.put c.in_ok-put_topic.ensures;
    }

pub returns : goal.returns
returns g c =
    let each = topic_fields g.A.Answered.name g.A.Answered.parts (g.A.Answered.told c.args.answered.now) (g.A.Answered.told_fields c.args.answered.now) in
    let told = topics_by (λ topic. length (g.A.Answered.parts topic)) each c.args.topics.now c.args.accepted.now c.args.readings.now in
    let all = topics_length g.A.Answered.parts each c.args.topics.now c.args.accepted.now c.args.readings.now in
    put_all (λ fields. fields) c.args.out.now c.loop-topic.out told c.loop-topic.topic-index (omega (arith, all, c.loop-topic-test.false)) c.loop-topic.invariant.put
