use Rattle.std.proofs.Common.{◌≡◌, Bool, List, ℕ, true, sym, subst, ap, ◌∙◌}
use Rattle.trace_workers.specs.Ending.{MayEndSo}
use Rattle.trace_workers.specs.Sessions.{SessionView}
use Rattle.trace_workers.proofs.session.TraceSession.take_next.Goals as goal

pub end-requires-in-NotYet-clause-shown : goal.end-requires-in-NotYet-clause-shown
end-requires-in-NotYet-clause-shown g c t going =
    let end = c.end_of_input-end.result in
    let inbox : c.bytes-in-NotYet.result.now ≡ c.args.self.now.inbox = c.bytes-in-NotYet.ensures ∙ ap (λ (x : SessionView). x.inbox) c.self.view_is in
    let shut : c.args.self.now.is_shut ≡ true = ap (λ (x : SessionView). x.is_shut) (sym c.self.view_is) ∙ c.if-not-self.false in
    subst (λ (b : Bool). MayEndSo c.args.self.now.inbox b end t) (sym shut) (subst (λ (x : List ℕ). MayEndSo x true end t) inbox (c.end_of_input-end.ensures.fits t, c.end_of_input-end.ensures.played))
