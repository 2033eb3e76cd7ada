use Rattle.std.proofs.Common.{true, sym, subst, ap, ◌∙◌}
use Rattle.shared_broker.specs.Passes.{PassView}
use Rattle.shared_broker.specs.Sessions.{with_begun}
use Rattle.trace_workers.specs.Received.{HasHandled, HasReceived}
use Rattle.trace_workers.specs.Sessions.{SessionView}
use Rattle.trace_workers.proofs.Going.{begun, nothing_of}
use Rattle.trace_workers.proofs.session.TraceSession.name.Goals as goal

pub returns-then-not-self-clause-received : goal.returns-then-not-self-clause-received
returns-then-not-self-clause-received c input h =
    let i = c.self.inside in
    let s : SessionView = record { number = i.number; pass = i.pass; inbox = i.inbox; is_shut = i.is_shut; is_named = i.is_named; kept = i.kept } in
    let here : HasReceived input s = subst (HasReceived input) (sym c.self.view_is) h in
    subst (λ (p : PassView). HasHandled input (record s { pass = p; is_named = true })) (sym (c.begin.ensures ∙ ap (with_begun i.pass) c.from.ensures))
    (begun input s (nothing_of input s c.if-not-self.true here))
