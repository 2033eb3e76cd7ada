use Rattle.std.proofs.Common.{◌≡◌, map, refl, subst, sym}
use Rattle.std.proofs.lemmas.Result.{IfOk-weaker}
use Rattle.shared_broker.specs.Closing.{HasClosed as HasEnded}
use Rattle.trace_workers.specs.Closed.{HasClosed}
use Rattle.trace_workers.specs.Joined.{JoinedView, passes_in}
use Rattle.trace_workers.specs.Sessions.{desk_of}
use Rattle.trace_workers.specs.declared.joined.Closing.{Closing}
use Rattle.trace_workers.proofs.joined.after_close.Goals as goal

pub put_together-requires : goal.put_together-requires
put_together-requires c =
    let r = c.requires in
    let back = subst (HasEnded r.0 (passes_in r.1)) c.in-Untaken.is r.2 in
    (r.1, back.1, r.3)

pub returns-in-Closed : goal.returns-in-Closed
returns-in-Closed c broker joined h desks = (subst (HasEnded broker (passes_in joined)) c.in-Closed.is h, desks)

pub returns-in-Untaken : goal.returns-in-Untaken
returns-in-Untaken c =
    let again = c.in-Untaken in
    IfOk-weaker c.put_together.result (λ (closing : Closing). (joined : JoinedView) → again.passes ≡ passes_in joined → c.args.desks ≡ map desk_of joined.sessions → closing ≡ Closing.Again again.broker joined) _
    (λ closing is broker joined h desks.
    let back = subst (HasEnded broker (passes_in joined)) again.is h in
    subst (HasClosed broker joined) (sym (is joined back.1 desks)) (back.0, refl)) c.put_together.ensures
