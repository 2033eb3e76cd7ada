use Rattle.std.proofs.Common.{◌≡◌, ◌∙◌, ap, inl, inr, length, rules, subst, sym, to_z, of_z}
use Rattle.std.proofs.lemmas.Int.{to_z-of_z}
use Rattle.std.specs.Int.{w32}
use mir.Val.{SFits}
use Rattle.kwire.specs.declared.request.Ask.TheVariants.{Fetch}
use Rattle.kwire.specs.declared.request.Request.{Request}
use Rattle.kwire.specs.Views.{ask_of}
use Rattle.shared_calls.proofs.Ends.{IsNoFetch, finished_fetch, finished_other, stopped_fetch, stopped_other}
use Rattle.shared_calls.proofs.Needs.{gauges_there}
use Rattle.shared_calls.proofs.Telling.{if_ok_then, on_err_then}
use Rattle.shared_calls.proofs.completing.complete.Goals as goal

pub win-requires-clause-gauges : goal.win-requires-clause-gauges
win-requires-clause-gauges g c =
    let call = c.args.call.now in
    gauges_there (length call.by.now.logs.now.parts) c.args.request.now.ask call.accepted.now c.requires.operation.0 call.op.now c.requires.operation.1 c.requires.there

pub returns-in-Fetch-clause-finished : goal.returns-in-Fetch-clause-finished
returns-in-Fetch-clause-finished g c =
    let call = c.args.call.now in
    let request = c.args.request.now in
    let won = c.in_ok-values.ensures.won in
    let m = c.win.new in
    let new = c.read_each.new in
    let f = c.in-Fetch in
    let fits : SFits w32 f.replica = search rules in
    let ask : request.ask ≡ Fetch f.version f.replica f.max_wait f.min_bytes f.max_bytes f.isolation f.topics = sym (ap (λ (r : Request). r.ask) c.request.view_is) ∙ ap ask_of f.is in
    if_ok_then c.read_each.result c.read_each.ensures.read (λ readings read.
    finished_fetch call.by.now.seq request call.accepted.now call.op.now call.how c.in_ok-values.values c.needs.result.now c.args.pass.now m.pass new.pass m.points new.points c.needs.ensures.items won
    f.version (to_z w32 (of_z w32 f.replica)) f.replica f.max_wait f.min_bytes f.max_bytes f.isolation f.topics c.as_slice-topics.result.now ask (to_z-of_z w32 f.replica fits) c.as_slice-topics.ensures
    c.of-budget.result read.0 readings c.of-budget.ensures read.1)

pub returns-in-Fetch-clause-stopped : goal.returns-in-Fetch-clause-stopped
returns-in-Fetch-clause-stopped g c =
    let call = c.args.call.now in
    let request = c.args.request.now in
    let won = c.in_ok-values.ensures.won in
    let m = c.win.new in
    let new = c.read_each.new in
    let f = c.in-Fetch in
    let fits : SFits w32 f.replica = search rules in
    let ask : request.ask ≡ Fetch f.version f.replica f.max_wait f.min_bytes f.max_bytes f.isolation f.topics = sym (ap (λ (r : Request). r.ask) c.request.view_is) ∙ ap ask_of f.is in
    on_err_then c.read_each.result c.read_each.ensures.stopped
    (stopped_fetch call.by.now.seq request call.accepted.now call.op.now call.how c.in_ok-values.values c.needs.result.now c.args.pass.now m.pass new.pass m.points new.points c.needs.ensures.items won
    f.version (to_z w32 (of_z w32 f.replica)) f.replica f.max_wait f.min_bytes f.max_bytes f.isolation f.topics c.as_slice-topics.result.now ask (to_z-of_z w32 f.replica fits) c.as_slice-topics.ensures)

pub returns-in-Produce-clause-finished : goal.returns-in-Produce-clause-finished
returns-in-Produce-clause-finished g c =
    let call = c.args.call.now in
    let request = c.args.request.now in
    let won = c.in_ok-values.ensures.won in
    let m = c.win.new in
    let new = c.look_at_each.new in
    let seen : IsNoFetch (ask_of c.request.inside.ask) = elim c.in-Produce.is [
      | inl p ↦ subst IsNoFetch (sym (ap ask_of p.5)) tt
      | inr o ↦ elim o [
        | inl m ↦ subst IsNoFetch (sym (ap ask_of m.1)) tt
        | inr v ↦ subst IsNoFetch (sym (ap ask_of v.1)) tt
      ]
    ] in
    let other : IsNoFetch request.ask = subst (λ (r : Request). IsNoFetch r.ask) c.request.view_is seen in
    if_ok_then c.look_at_each.result c.look_at_each.ensures.looked (λ readings read.
    finished_other call.by.now.seq request call.accepted.now call.op.now call.how c.in_ok-values.values c.needs.result.now c.args.pass.now m.pass new.pass m.points new.points c.needs.ensures.items won
    readings other c.requires.listed.each read)

pub returns-in-Produce-clause-stopped : goal.returns-in-Produce-clause-stopped
returns-in-Produce-clause-stopped g c =
    let call = c.args.call.now in
    let request = c.args.request.now in
    let won = c.in_ok-values.ensures.won in
    let m = c.win.new in
    let new = c.look_at_each.new in
    let seen : IsNoFetch (ask_of c.request.inside.ask) = elim c.in-Produce.is [
      | inl p ↦ subst IsNoFetch (sym (ap ask_of p.5)) tt
      | inr o ↦ elim o [
        | inl m ↦ subst IsNoFetch (sym (ap ask_of m.1)) tt
        | inr v ↦ subst IsNoFetch (sym (ap ask_of v.1)) tt
      ]
    ] in
    let other : IsNoFetch request.ask = subst (λ (r : Request). IsNoFetch r.ask) c.request.view_is seen in
    on_err_then c.look_at_each.result c.look_at_each.ensures.stopped
    (stopped_other call.by.now.seq request call.accepted.now call.op.now call.how c.in_ok-values.values c.needs.result.now c.args.pass.now m.pass new.pass m.points new.points c.needs.ensures.items won other)
