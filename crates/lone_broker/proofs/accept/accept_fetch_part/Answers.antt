use Rattle.std.proofs.Common.{ℤ, subst, rules}
use Rattle.std.proofs.lemmas.Int.{to_z-of_z}
use Rattle.std.specs.Int.{w32}
use mir.Val.{SFits}
use Rattle.kanswer.specs.Decisions.{fetch_outcome}
use Rattle.kanswer.specs.Entered.{HasEntered}
use Rattle.audit.proofs.Laws.{on_ok}
use Rattle.lone_broker.proofs.DecisionSteps.{entered_noted}
use Rattle.lone_broker.proofs.accept.accept_fetch_part.Goals as goal

pub returns : goal.returns
returns c =
    let visitor = c.args.call.now.visitor in
    let who = visitor.who in
    let log = c.args.log.now in
    let left = c.enter_fetch.new.log in
    let entered = c.in_ok-entered.entered in
    let asked = c.args.asked.now in
    let replica = c.args.call.now.replica in
    let fits : SFits w32 replica = search rules in
    let e = subst (λ (z : ℤ). HasEntered who.by who.seq visitor.moment (fetch_outcome log.followers z asked c.args.part) log left entered) (to_z-of_z w32 replica fits) c.in_ok-entered.ensures.entered in
    on_ok c.note_at.result c.note_at.ensures (entered_noted who.by who.seq visitor.moment c.args.part (fetch_outcome log.followers replica asked c.args.part) log left entered c.args.came.now c.note_at.new.self e)
