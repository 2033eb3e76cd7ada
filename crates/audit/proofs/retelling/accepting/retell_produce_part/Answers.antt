use Rattle.std.proofs.Common.{ℤ, [], ◌∷◌, ◌++◌, ap, ◌∙◌, rules}
use Rattle.std.proofs.lemmas.Int.{to_z-of_z}
use mir.Val.{SFits}
use Rattle.std.specs.Int.{w16}
use Rattle.kanswer.specs.declared.accepted.Accepted.TheVariants.{Refused}
use Rattle.kanswer.specs.Decisions.{AskLog, Decision, Refuse}
use Rattle.kanswer.specs.Sent.{sent_outcome}
use Rattle.audit.proofs.Laws.{on_ok}
use Rattle.audit.specs.retelling.Retells.{SoFar}
use Rattle.audit.proofs.retelling.ByPoints.{produced_one, refused_retells}
use Rattle.audit.proofs.retelling.accepting.retell_produce_part.Goals as goal

pub returns-in-Ok : goal.returns-in-Ok
returns-in-Ok c =
    let scene = c.args.scene.now in
    let number = c.in-Ok.number in
    let decision : Decision = AskLog number (sent_outcome number c.in-Ok.sent) in
    on_ok c.retell_put.result c.retell_put.ensures (λ k. produced_one scene.config.now c.args.terms scene.pasts.now scene.points.now c.args.topic.now c.args.part.now decision
    c.args.retold.now c.retell_put.new.retold c.in-Ok.ensures.put k)

pub returns-in-Err : goal.returns-in-Err
returns-in-Err c =
    let scene = c.args.scene.now in
    let old = c.args.retold.now in
    let new = c.refuse.new.self in
    let code = c.in-Err.code in
    let fits : SFits w16 code = search rules in
    on_ok c.refuse.result c.refuse.ensures (λ e. produced_one scene.config.now c.args.terms scene.pasts.now scene.points.now c.args.topic.now c.args.part.now (Refuse code)
    old new c.in-Err.ensures.refused
    (refused_retells scene.pasts.now scene.points.now code old new
    (e ∙ ap (λ (z : ℤ). let s : SoFar = record { accepted = old.accepted ++ Refused z ∷ []; places = old.places ++ 0 ∷ []; taken = old.taken } in s) (to_z-of_z w16 code fits))))
