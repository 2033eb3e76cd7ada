use Rattle.std.proofs.Common.{◌≡◌, ◌∙◌, List, [], ◌∷◌, ◌++◌, ap, subst, sym}
use Rattle.std.specs.Prelude.{replicate}
use Rattle.audit.specs.declared.account.Point.{Point}
use Rattle.audit.specs.Histories.{clock_part}
use Rattle.room_core.specs.declared.event.How.{How}
use Rattle.shared_logs.specs.Asked.{HasLookedAtClock}
use Rattle.shared_calls.specs.Fresh.{IsFresh, gauge_for}
use Rattle.shared_calls.specs.Looks.{WasWon}
use Rattle.shared_calls.proofs.Telling.{on_err}
use Rattle.shared_calls.proofs.Wins.{caught_up_won, won_late, won_satisfied}
use Rattle.shared_calls.proofs.completing.win.Goals as goal

pub returns-in_err-look_at_clock-in-Expired-clause-stopped : goal.returns-in_err-look_at_clock-in-Expired-clause-stopped
returns-in_err-look_at_clock-in-Expired-clause-stopped g c =
    let call = c.args.call.now in
    let new = c.look_at_clock.new in
    let e = c.in_err-look_at_clock-in-Expired.ensures in
    on_err c.from_residual.result
    (caught_up_won call.by.now.seq c.args.request.now call.accepted.now call.op.now c.args.pass.now new.pass new.points (e.none ∙ c.requires.unfinished) e.refused c.look_at_clock.ensures.seen.0 c.look_at_clock.ensures.seen.1)

pub returns-in-Satisfied-clause-won : goal.returns-in-Satisfied-clause-won
returns-in-Satisfied-clause-won g c =
    let call = c.args.call.now in
    let request = c.args.request.now in
    let a = c.args.pass.now in
    let b = c.satisfying.new.pass in
    let values = c.satisfying.result in
    let e = c.satisfying.ensures in
    let fresh = IsFresh (gauge_for request.ask) call.op.now.needs values in
    let won = won_satisfied call.by.now.seq request call.accepted.now call.op.now c.requires.operation.0 values a b e.stepped e.kept c.requires.operation.1 e.satisfied in
    subst (λ (how : How). WasWon call.by.now.seq request call.accepted.now call.op.now how fresh a b c.args.points.now) (sym c.in-Satisfied.is)
    (subst (WasWon call.by.now.seq request call.accepted.now call.op.now How.Satisfied fresh a b) (sym c.requires.unfinished) won)

pub returns-in_ok-look_at_clock-in-Expired-clause-won : goal.returns-in_ok-look_at_clock-in-Expired-clause-won
returns-in_ok-look_at_clock-in-Expired-clause-won g c =
    let call = c.args.call.now in
    let request = c.args.request.now in
    let a = c.args.pass.now in
    let new = c.look_at_clock.new in
    let looked = c.in_ok-look_at_clock-in-Expired.ensures.looked in
    let points : new.points ≡ record { part = clock_part; place = looked.0 } ∷ [] = looked.2 ∙ ap (λ (ps : List Point). ps ++ record { part = clock_part; place = looked.0 } ∷ []) c.requires.unfinished in
    let at = subst (λ n. HasLookedAtClock call.by.now.seq n a new.pass looked.0 c.in_ok-look_at_clock-in-Expired.field-0) c.deadline.ensures looked.1 in
    let fresh = IsFresh (gauge_for request.ask) call.op.now.needs (replicate 64 0) in
    subst (λ (how : How). WasWon call.by.now.seq request call.accepted.now call.op.now how fresh a new.pass new.points) (sym c.in-Expired.is)
    (won_late call.by.now.seq request call.accepted.now call.op.now fresh a new.pass looked.0 c.in_ok-look_at_clock-in-Expired.field-0 new.points at points c.look_at_clock.ensures.seen.0 c.look_at_clock.ensures.seen.1)
