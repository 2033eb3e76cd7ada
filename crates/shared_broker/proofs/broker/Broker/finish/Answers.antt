use Rattle.std.proofs.Common.{ap, subst, sym, ◌∙◌}
use Rattle.shared_broker.specs.Passes.{PassView}
use Rattle.shared_broker.specs.Sessions.{MayEnd}
use Rattle.shared_broker.proofs.SessionsStand.{ended_pass, first_moved, pass_of}
use Rattle.shared_broker.proofs.broker.Broker.finish.Goals as goal

pub invariant_of-pass-2 : goal.invariant_of-pass-2
invariant_of-pass-2 c =
    let i = c.pass.inside in
    let p : PassView = pass_of i.config.value i.logs i.ended i.going i.waits in
    let moved = c.in_ok-calls.ensures.moved in
    let none = ap (λ (v : PassView). v.waits) c.pass.view_is ∙ c.requires.none in
    let may : MayEnd p.going c.args.end = subst (λ (v : PassView). MayEnd v.going c.args.end) (sym c.pass.view_is) c.requires.cut in (
      ended_pass p c.args.end i.first c.in_ok-calls.calls c.end_going.new.ended c.end_going.new.going moved none c.pass.invariant.1 c.pass.invariant.0 may,
      first_moved p c.args.end i.first c.in_ok-calls.calls c.end_going.new.ended c.end_going.new.going moved none c.pass.invariant.1 c.pass.invariant.0,
    )
