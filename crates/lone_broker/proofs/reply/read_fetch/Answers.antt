use Rattle.std.proofs.Common.{◌<◌, arith, length, ap, ◌∙◌}
use Rattle.kwire.specs.declared.request.FetchTopic.{FetchTopic}
use Rattle.lone_broker.proofs.ReadForReply.{topic_size, topic_read}
use Rattle.lone_broker.proofs.reply.read_fetch.Goals as goal

pub loop-topic-preserved : goal.loop-topic-preserved
loop-topic-preserved c =
    let d = c.in_ok-read_topic.ensures in
    let i = c.loop-topic.topic-index in
    let t = c.topic-item.result in
    let lt : i < length c.args.topics.now = c.loop-topic-test.true in
    let parts = ap (λ (topic : FetchTopic). topic.parts) c.topic.view_is in
    record {
      size = omega (arith, topic_size c.args.topics.now i t lt c.topic-item.is, c.len.ensures, ap length parts);
      read = topic_read c.args.reader.now.parts.now c.args.reader.now.replica c.args.topics.now c.as_slice-asked.result.now c.args.accepted.now i c.loop-topic.from c.len.result t c.loop-topic.budget c.read_topic.new.budget c.loop-topic.readings c.read_topic.new.readings _ lt c.topic-item.is (c.as_slice-asked.ensures ∙ parts) (c.len.ensures ∙ ap length parts) d.read d.left c.loop-topic.invariant.read;
      offsets = d.offsets c.loop-topic.invariant.offsets;
      room = omega arith;
    }
