use Rattle.std.proofs.Common.{sym}
use Rattle.shared_broker.proofs.ClosingSheets.{apart_step}
use Rattle.shared_broker.proofs.closing.take_apart.Goals as goal

pub loop-pass-preserved : goal.loop-pass-preserved
loop-pass-preserved c =
    let i = c.loop-pass.invariant in
    let step = apart_step c.loop-pass.logs c.push-in-loop-pass.new.self c.loop-pass.sheets c.push.new.self c.pass.inside.logs _ c.in-Some.pass c.loop-pass.yielded c.in_ok-push-2.ensures.ok c.in_ok-push.ensures.ok (sym c.pass.view_is)
    (record { stands = c.pass.invariant.0; first = c.pass.invariant.1; number = c.number.ensures.number }) i.joined i.all in
    record { all = step.0; joined = step.1 }
