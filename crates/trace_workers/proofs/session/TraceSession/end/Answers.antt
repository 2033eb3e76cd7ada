use Rattle.std.proofs.Common.{◌≡◌, true, false, sym, subst, ap, ◌∙◌}
use Rattle.std.specs.Prelude.{is_some}
use Rattle.shared_broker.specs.Sessions.{is_cut_off}
use Rattle.trace_workers.specs.Ending.{EndsSo}
use Rattle.trace_workers.specs.Received.{HasReceived}
use Rattle.trace_workers.specs.Sessions.{SessionView}
use Rattle.trace_workers.proofs.Going.{ended, handled_of, named_of, received_of, uncut}
use Rattle.trace_workers.proofs.session.TraceSession.end.Goals as goal

pub finish-requires-clause-cut : goal.finish-requires-clause-cut
finish-requires-clause-cut c cut =
    let r = c.requires.received in
    let whole : is_cut_off c.args.self.now.pass.going ≡ false = uncut r.0 c.args.self.now c.requires.begun r.1 in
    let other : false ≡ true = sym whole ∙ ap (λ (x : SessionView). is_cut_off x.pass.going) (sym c.self.view_is) ∙ cut in
    absurd cc

pub returns-clause-received : goal.returns-clause-received
returns-clause-received c input h =
    let i = c.self.inside in
    let s : SessionView = record { number = i.number; pass = i.pass; inbox = i.inbox; is_shut = i.is_shut; is_named = i.is_named; kept = i.kept } in
    let back = sym c.self.view_is in
    let here : HasReceived input s = subst (HasReceived input) back h in
    let goes : is_some s.pass.going ≡ true = subst (λ (x : SessionView). is_some x.pass.going ≡ true) back c.requires.begun in
    let shows : EndsSo c.args.end s = subst (EndsSo c.args.end) back c.requires.shown in
    let named : s.is_named ≡ true = named_of input s goes here in
    received_of input (record s { pass = c.finish.new.pass }) named (ended input s c.args.end c.finish.new.pass (handled_of input s named here) shows c.in_ok-finish.ensures.ended)
