use Rattle.std.proofs.Common.{◌<◌, ℤ, [], ◌∷◌, ◌++◌, length, get_or, refl, ap, ◌∙◌, arith, rules}
use Rattle.std.proofs.lemmas.Int.{to_z-of_z}
use Rattle.std.specs.Int.{w16}
use mir.Val.{SFits}
use Rattle.kanswer.specs.declared.accepted.Accepted.TheVariants.{Refused}
use Rattle.kanswer.specs.Decisions.{AskLog, Refuse}
use Rattle.kanswer.specs.Sent.{sent_outcome}
use Rattle.std.proofs.lemmas.List.{get_or_default}
use Rattle.audit.proofs.Laws.{on_ok}
use Rattle.lone_broker.proofs.DecisionSteps.{refusal_carried, entered_carried}
use Rattle.lone_broker.proofs.accept.produce_one.Goals as goal

pub returns-in-Ok : goal.returns-in-Ok
returns-in-Ok c =
    let call = c.args.call.now in
    let parts = c.args.parts.now in
    let number = c.in-Ok.number in
    let outcome = sent_outcome number c.in-Ok.sent in
    let within : number < length parts = omega (arith, c.in-Ok.ensures.within, c.requires) in
    let h = get_or parts number c.index-parts-number.result in
    on_ok c.put.result c.put.ensures (λ e. (
      AskLog number outcome,
      c.in-Ok.ensures.put,
      entered_carried call.visitor.who.by call.visitor.who.seq call.visitor.moment number parts _ h c.put.new.log outcome c.args.came.now c.put.new.came within (get_or_default parts number c.index-parts-number.result h within) e refl,
    ))

pub returns-in-Err : goal.returns-in-Err
returns-in-Err c =
    let call = c.args.call.now in
    let code = c.in-Err.code in
    let came = c.args.came.now in
    let fits : SFits w16 code = search rules in
    on_ok c.note.result c.note.ensures (λ e. (
      Refuse code,
      c.in-Err.ensures.refused,
      refusal_carried call.visitor.who.by call.visitor.who.seq call.visitor.moment code c.args.parts.now came c.note.new.self
          (e ∙ ap (λ (z : ℤ). record { accepted = came.accepted ++ Refused z ∷ []; points = came.points }) (to_z-of_z w16 code fits)),
    ))
