use Rattle.std.proofs.Common.{◌<◌, ◌≤◌, List, slice_index, refl, sym, ap, ◌∙◌, arith}
use Rattle.std.proofs.lemmas.List.{drop_all}
use Rattle.kwire.specs.declared.config.Topic.{Topic}
use Rattle.kwire.specs.Configuration.{Configuration, partitions_of, followers_of}
use Rattle.kwire.proofs.Lookups.{sum_here, followers_here, followers_next}
use Rattle.kwire.proofs.config.Config.followers_of.Goals as goal

pub loop-topic-init : goal.loop-topic-init
loop-topic-init c =
    let all = ap (λ (config : Configuration). partitions_of config.topics) c.self.view_is in
    let here = ap partitions_of c.as_slice-topic-items.ensures in
    record { within = omega (arith, all, here, c.requires); so_far = refl }

pub loop-topic-preserved : goal.loop-topic-preserved
loop-topic-preserved c =
    let topics = c.as_slice-topic-items.result.now in
    let i = c.loop-topic.topic-index in
    let topic = c.topic-item.result in
    let sum = sum_here topics i topic c.loop-topic-test.true c.topic-item.is in
    let more : topic.partitions ≤ c.loop-topic.left = omega arith in
    record {
      within = omega (arith, sum, c.loop-topic.invariant.within, more);
      so_far = c.loop-topic.invariant.so_far ∙ followers_next topics i topic c.loop-topic-test.true c.topic-item.is c.loop-topic.left more;
    }

pub returns-then-left-topic : goal.returns-then-left-topic
returns-then-left-topic c =
    let topics = c.as_slice-topic-items.result.now in
    let less : c.loop-topic.left < c.topic-item.result.partitions = omega arith in
    let same = c.as_slice-topic-items.ensures ∙ ap (λ (config : Configuration). config.topics) c.self.view_is in
    sym (ap (λ (ts : List Topic). slice_index (followers_of ts) c.args.part) (sym same)
    ∙ c.loop-topic.invariant.so_far
    ∙ followers_here topics c.loop-topic.topic-index c.topic-item.result c.loop-topic-test.true c.topic-item.is c.loop-topic.left less)

pub returns : goal.returns
returns c =
    let none = ap partitions_of (drop_all c.loop-topic.topic-index c.as_slice-topic-items.result.now c.loop-topic-test.false) in
    absurd (omega (arith, none, c.loop-topic.invariant.within))
