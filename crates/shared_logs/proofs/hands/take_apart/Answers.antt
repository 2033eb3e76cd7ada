use Rattle.std.proofs.Common.{sym}
use Rattle.shared_logs.proofs.Apart.{apart_step}
use Rattle.shared_logs.proofs.hands.take_apart.Goals as goal

pub loop-pass-preserved : goal.loop-pass-preserved
loop-pass-preserved c =
    let i = c.loop-pass.invariant in
    let step = apart_step c.loop-pass.passes c.pop.new.self c.in-Some.pass c.loop-pass.seats c.push.new.self c.pass.inside.room c.loop-pass.hands c.push-in-Some.new.self _ c.in-Some.ensures.items
    c.in_ok-push.ensures.ok c.in_ok-push-2.ensures.ok (sym c.pass.view_is) c.pass.invariant _ i.joined i.all in
    record { all = step.0; joined = step.1 }
