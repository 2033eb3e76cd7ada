use Rattle.std.proofs.Common.{ap, ◌∙◌}
use Rattle.shared_broker.specs.Passes.{PassView}
use Rattle.shared_broker.proofs.SessionsStand.{begun_pass, pass_of}
use Rattle.shared_broker.proofs.broker.Broker.begin.Goals as goal

pub invariant_of-pass : goal.invariant_of-pass
invariant_of-pass c =
    let i = c.pass.inside in
    let p : PassView = pass_of i.config.value i.logs i.ended i.going i.waits in
    (begun_pass p c.args.number i.first c.new.result c.new.ensures c.pass.invariant.1 (ap (λ (v : PassView). v.going) c.pass.view_is ∙ c.requires.none) c.pass.invariant.0, c.pass.invariant.1)
