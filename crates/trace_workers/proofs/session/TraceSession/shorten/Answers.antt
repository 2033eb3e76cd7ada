use Rattle.std.proofs.Common.{List, Option, Some, refl, subst, sym}
use Rattle.std.proofs.lemmas.Result.{on_ok_weaker}
use Rattle.trace_workers.specs.declared.print_part.PrintPart.{PrintPart}
use Rattle.trace_workers.specs.Received.{HasReceived}
use Rattle.trace_workers.specs.Sessions.{SessionView}
use Rattle.trace_workers.specs.Telling.{AreSame}
use Rattle.trace_workers.proofs.Going.{shortened}
use Rattle.trace_workers.proofs.session.TraceSession.shorten.Goals as goal

pub returns-in-Some-clause-received : goal.returns-in-Some-clause-received
returns-in-Some-clause-received g c =
    let i = c.self.inside in
    let s : SessionView = record { number = i.number; pass = i.pass; inbox = i.inbox; is_shut = i.is_shut; is_named = i.is_named; kept = i.kept } in
    let new = c.shorten.new.pass in
    let now : Option (List PrintPart) = Some c.shorten.new.self in
    on_ok_weaker c.shorten.result
    (λ same input h.
    shortened input s new now c.shorten.ensures.others (subst (λ (k : Option (List PrintPart)). AreSame new k now) (sym c.in-Some.is) (c.shorten.new.self, refl, same)) (subst (HasReceived input) (sym c.self.view_is) h))
    c.shorten.ensures.same
