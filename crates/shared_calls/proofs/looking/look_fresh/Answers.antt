use Rattle.std.proofs.Common.{◌∙◌, ◌/◌, ◌<◌, ap, arith, length, subst, sym}
use Rattle.partlog.specs.State.{state_of}
use Rattle.audit.specs.broker.Board.{history_at}
use Rattle.shared_logs.specs.Shared.{SharedView}
use Rattle.shared_calls.specs.Fresh.{IsFresh}
use Rattle.shared_calls.specs.Looks.{HaveStopped}
use Rattle.shared_calls.proofs.Looks.{caught_up_stopped, looked_one}
use Rattle.shared_calls.proofs.Passes.{as_many_seen}
use Rattle.shared_calls.proofs.Telling.{if_ok_then, on_err_both}
use Rattle.shared_calls.proofs.looking.look_fresh.Goals as goal

pub returns-clause-looked : goal.returns-clause-looked
returns-clause-looked g c =
    let call = c.args.call.now in
    let a = c.args.pass.now in
    let new = c.look.new in
    let part = c.args.gauge / 3 in
    let many = as_many_seen a c.look.ensures.seen.0 ∙ ap (λ (s : SharedView). length s.parts) c.requires.made in
    let inside : part < length a.parts = omega (arith, many, c.requires.there) in
    if_ok_then c.look.result c.look.ensures.looked (λ numbers k gauges became at asks.
    let h = k.1 in
    let state = state_of (history_at h.found part) in
    let fresh = c.least_of-value.ensures gauges part state at h.late in (
      state,
      h.numbers_are,
      looked_one call.by.now.seq (IsFresh gauges call.needs.now call.values.now) a new.pass c.args.points.now new.points became part c.args.gauge c.least_of-value.result k.0 numbers asks h k.2 c.look.ensures.seen.0 c.look.ensures.seen.1 inside fresh,
    ))

pub returns-clause-stopped : goal.returns-clause-stopped
returns-clause-stopped g c =
    let call = c.args.call.now in
    let a = c.args.pass.now in
    let new = c.look.new in
    on_err_both c.look.result c.look.ensures.refused c.look.ensures.none (λ came none gauges next.
    subst (HaveStopped call.by.now.seq (IsFresh gauges call.needs.now call.values.now) a c.args.points.now next new.pass) (sym none)
    (caught_up_stopped call.by.now.seq (IsFresh gauges call.needs.now call.values.now) a new.pass c.args.points.now next came c.look.ensures.seen.0 c.look.ensures.seen.1))
