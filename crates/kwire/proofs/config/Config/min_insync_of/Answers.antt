use Rattle.std.proofs.Common.{◌<◌, ◌≤◌, List, sym, ap, ◌∙◌, arith}
use Rattle.kwire.specs.declared.config.Topic.{Topic}
use Rattle.kwire.specs.Configuration.{Configuration, min_insync_at}
use Rattle.kwire.proofs.Lookups.{min_insync_here, min_insync_next, min_insync_past}
use Rattle.kwire.proofs.config.Config.min_insync_of.Goals as goal

pub loop-topic-preserved : goal.loop-topic-preserved
loop-topic-preserved c =
    let topics = c.as_slice-topic-items.result.now in
    let i = c.loop-topic.topic-index in
    let more : c.topic-item.result.partitions ≤ c.loop-topic.left = omega arith in
    c.loop-topic.invariant ∙ min_insync_next topics i c.topic-item.result c.loop-topic-test.true c.topic-item.is c.loop-topic.left more

pub returns-then-left-topic : goal.returns-then-left-topic
returns-then-left-topic c =
    let topics = c.as_slice-topic-items.result.now in
    let less : c.loop-topic.left < c.topic-item.result.partitions = omega arith in
    let same = c.as_slice-topic-items.ensures ∙ ap (λ (config : Configuration). config.topics) c.self.view_is in
    sym (ap (λ (ts : List Topic). min_insync_at ts c.args.part) (sym same)
    ∙ c.loop-topic.invariant
    ∙ min_insync_here topics c.loop-topic.topic-index c.topic-item.result c.loop-topic-test.true c.topic-item.is c.loop-topic.left less)

pub returns : goal.returns
returns c =
    let topics = c.as_slice-topic-items.result.now in
    let same = c.as_slice-topic-items.ensures ∙ ap (λ (config : Configuration). config.topics) c.self.view_is in
    sym (ap (λ (ts : List Topic). min_insync_at ts c.args.part) (sym same)
    ∙ c.loop-topic.invariant
    ∙ min_insync_past topics c.loop-topic.topic-index c.loop-topic.left c.loop-topic-test.false)
