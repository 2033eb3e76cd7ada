use Rattle.std.proofs.Common.{◌≡◌, ◌+◌, ℕ, List, true, false, pos, sym, ap, ◌∙◌, arith}
use Rattle.std.specs.Cmp.Lexicographic.{pointwise}
use Rattle.std.specs.Bool.{nat_eq}
use Rattle.kwire.specs.declared.config.Topic.{Topic}
use Rattle.kwire.specs.Configuration.{Configuration, partitions_of, part_from}
use Rattle.kwire.proofs.Lookups.{sum_next, sum_within, part_next, part_here, part_past, part_within}
use Rattle.kwire.proofs.config.Config.find_part.Goals as goal

pub part_in-requires : goal.part_in-requires
part_in-requires c =
    let topics = c.as_slice-topic-items.result.now in
    let within = sum_within topics c.loop-topic.topic-index c.topic-item.result c.loop-topic-test.true c.topic-item.is in
    let all : partitions_of topics ≡ c.self.inside.parts = ap partitions_of c.as_slice-topic-items.ensures ∙ sym c.self.invariant.0 in
    let few = c.self.invariant.1.few in
    omega (arith, within, all, few, c.self.invariant.0, c.loop-topic.invariant.sum)

pub loop-topic-preserved : goal.loop-topic-preserved
loop-topic-preserved c =
    let topics = c.as_slice-topic-items.result.now in
    let i = c.loop-topic.topic-index in
    let topic = c.topic-item.result in
    let other : pointwise nat_eq topic.name c.args.name.now ≡ false = ap (λ (n : List ℕ). pointwise nat_eq n c.args.name.now) (sym c.as_slice.ensures) ∙ sym c.if-eq.ensures in
    record {
      sum = ap (λ n. n + topic.partitions) c.loop-topic.invariant.sum ∙ sym (sum_next topics i topic c.loop-topic-test.true c.topic-item.is);
      so_far = c.loop-topic.invariant.so_far ∙ part_next topics i topic c.loop-topic-test.true c.topic-item.is c.loop-topic.before c.args.number c.args.name.now other;
    }

pub returns-then-eq-clause-number : goal.returns-then-eq-clause-number
returns-then-eq-clause-number c =
    let topics = c.as_slice-topic-items.result.now in
    let i = c.loop-topic.topic-index in
    let topic = c.topic-item.result in
    let same : pointwise nat_eq topic.name c.args.name.now ≡ true = ap (λ (n : List ℕ). pointwise nat_eq n c.args.name.now) (sym c.as_slice.ensures) ∙ sym c.if-eq.ensures in
    c.part_in.ensures ∙ sym (ap (λ (ts : List Topic). part_from 0 ts c.args.name.now (pos c.args.number)) (sym (c.as_slice-topic-items.ensures ∙ ap (λ (config : Configuration). config.topics) c.self.view_is)) ∙ c.loop-topic.invariant.so_far ∙ part_here topics i topic c.loop-topic-test.true c.topic-item.is c.loop-topic.before c.args.number c.args.name.now same)

pub returns-then-eq-clause-within : goal.returns-then-eq-clause-within
returns-then-eq-clause-within c =
    let topics = c.as_slice-topic-items.result.now in
    let within = sum_within topics c.loop-topic.topic-index c.topic-item.result c.loop-topic-test.true c.topic-item.is in
    let all : partitions_of topics ≡ partitions_of c.args.self.now.topics = ap partitions_of (c.as_slice-topic-items.ensures ∙ ap (λ (config : Configuration). config.topics) c.self.view_is) in
    part_within c.loop-topic.before c.args.number (partitions_of c.args.self.now.topics) c.topic-item.result c.part_in.result (omega (arith, within, all, c.loop-topic.invariant.sum)) c.part_in.ensures

pub returns-clause-number : goal.returns-clause-number
returns-clause-number c =
    let topics = c.as_slice-topic-items.result.now in
    sym (ap (λ (ts : List Topic). part_from 0 ts c.args.name.now (pos c.args.number)) (sym (c.as_slice-topic-items.ensures ∙ ap (λ (config : Configuration). config.topics) c.self.view_is))
    ∙ c.loop-topic.invariant.so_far ∙ part_past topics c.loop-topic.topic-index c.loop-topic.before c.args.number c.args.name.now c.loop-topic-test.false)
