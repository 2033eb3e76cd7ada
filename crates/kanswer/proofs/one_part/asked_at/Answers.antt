use Rattle.std.proofs.Common.{pos, ap, ◌∙◌, arith}
use Rattle.kwire.specs.declared.request.FetchTopic.{FetchTopic}
use Rattle.kwire.specs.declared.request.FetchPart.{FetchPart}
use Rattle.kanswer.proofs.AskedParts.{found_here, found_later}
use Rattle.kanswer.proofs.one_part.asked_at.Goals as goal

abbrev none : FetchPart
none = record { index = pos 0; offset = pos 0; log_start = pos 0; most = pos 0 }

pub returns-then-left-parts : goal.returns-then-left-parts
returns-then-left-parts c =
    found_here c.args.topics.now c.loop-topic.topic-index c.loop-topic.left c.args.at c.topic-item.result c.as_slice-parts.result.now none (omega (arith, c.loop-topic-test.true)) c.topic-item.is (c.as_slice-parts.ensures ∙ ap (λ (t : FetchTopic). t.parts) c.topic.view_is) c.loop-topic.invariant (omega (arith, c.if-left-parts.true))

pub loop-topic-preserved : goal.loop-topic-preserved
loop-topic-preserved c =
    found_later c.args.topics.now c.loop-topic.topic-index c.loop-topic.left c.args.at c.topic-item.result c.as_slice-parts.result.now none (omega (arith, c.loop-topic-test.true)) c.topic-item.is (c.as_slice-parts.ensures ∙ ap (λ (t : FetchTopic). t.parts) c.topic.view_is) c.loop-topic.invariant (omega (arith, c.if-left-parts.false))
