use Rattle.std.proofs.Common.{◌≡◌, ◌∙◌, Some, ap, rules, sym}
use Rattle.kwire.specs.Configuration.{Configuration, part_of}
use Rattle.shared_broker.specs.Passes.{BrokerView, PassView}
use Rattle.shared_broker.proofs.Ranges.{caught_up_stands, caught_up_still, log_of_part, range_stands}
use Rattle.shared_broker.proofs.SessionsStand.{pass_of}
use Rattle.shared_broker.proofs.broker.Broker.find.Goals as goal

pub returns-in_default-clause-others : goal.returns-in_default-clause-others
returns-in_default-clause-others g c = caught_up_still c.args.pass.now

pub find-found-requires-clause-there : goal.find-found-requires-clause-there
find-found-requires-clause-there g c =
    let s = c.self.inside in
    log_of_part s.config.topics s.logs c.in-Some.part c.self.invariant.1 c.in-Some.ensures.within

pub invariant_of-pass : goal.invariant_of-pass
invariant_of-pass g c =
    let i = c.pass.inside in
    let f = c.find-found.ensures in
    (caught_up_stands (pass_of i.config.value i.logs i.ended i.going i.waits) c.find-found.new.pass c.pass.invariant.0 f.seen.1 f.others f.seat, c.pass.invariant.1)

pub invariant_of-pass-2 : goal.invariant_of-pass-2
invariant_of-pass-2 g c =
    let i = c.pass.inside in
    let f = c.find-found.ensures in
    (caught_up_stands (pass_of i.config.value i.logs i.ended i.going i.waits) c.find-found.new.pass c.pass.invariant.0 f.seen.1 f.others f.seat, c.pass.invariant.1)

pub returns-clause-sought : goal.returns-clause-sought
returns-clause-sought g c =
    let i = c.pass.inside in
    let s = c.args.sought.now in
    let later = c.find-found.new.pass in
    let config : i.config.value ≡ c.self.inside.config =
    ap (λ (p : PassView). p.config) c.pass.view_is ∙ ap (λ (b : BrokerView). b.config) c.requires.made ∙ sym (ap (λ (b : BrokerView). b.config) c.self.view_is) in
    let there : part_of c.self.inside.config s.topic.now s.index ≡ Some c.in-Some.part = search rules in (
      ap (λ (k : Configuration). part_of k s.topic.now s.index) config ∙ there,
      range_stands i.config.value later.parts later.clock c.in-Some.part c.in-Some-found.start s.records.now c.in-Some-found.ensures.sought.1,
    )
