use Rattle.std.proofs.Common.{◌≡◌, ◌∙◌, ℤ, Err, ◌+◌, length, sym, ap, subst, arith, rules}
use Rattle.std.proofs.lemmas.Int.{to_z-of_z}
use Rattle.std.specs.Int.{w16}
use mir.Val.{SFits, of_z, to_z}
use Rattle.partlog.specs.History.{History}
use Rattle.partlog.specs.State.{PartState, state_of}
use Rattle.kanswer.specs.Decisions.{Outcome, look, full_code}
use Rattle.kanswer.specs.declared.accepted.Accepted.TheVariants.{Refused}
use Rattle.kanswer.specs.declared.entered.Entered.{Entered}
use Rattle.kanswer.specs.Entered.{HasEntered}
use Rattle.kanswer.proofs.Putting.{if_ok, not_above, put_entered, full_entered}
use Rattle.kanswer.proofs.batch.append.Goals as goal

pub returns-in-Ok-clause-entered : goal.returns-in-Ok-clause-entered
returns-in-Ok-clause-entered c =
    put_entered c.args.sent.now.version c.args.visitor.who.by c.args.visitor.who.seq c.args.visitor.moment c.args.sent.now.least c.args.part c.in-Ok.placed.base c.in-Ok.placed.place c.count.result c.args.log.now c.append_view.new.self c.args.sent.now.batch
    c.append_view.ensures.was_kept c.requires (not_above 67108864 (length c.args.log.now.log + length c.args.sent.now.batch) (λ lt. let e = c.in-Ok.ensures.full.1 lt in cc)) c.in-Ok.ensures.appended c.in-Ok.ensures.base c.in-Ok.ensures.place c.count.ensures.kept (omega (arith, c.in-Ok.ensures.limit, c.count.type_inv))

pub returns-in-Err-LogFull-clause-entered : goal.returns-in-Err-LogFull-clause-entered
returns-in-Err-LogFull-clause-entered c =
    let log = c.args.log.now in
    let visitor = c.args.visitor in
    let after = c.look_at.new.log in
    let fits : SFits w16 c.full_code.result = search rules in
    let code : to_z w16 (of_z w16 c.full_code.result) ≡ full_code c.args.sent.now.version = to_z-of_z w16 c.full_code.result fits ∙ c.full_code.ensures in
    let Then : Entered → History → Type 0 = λ came h. (outcome : PartState → Outcome) → outcome (state_of h) ≡ look (Refused (full_code c.args.sent.now.version)) → HasEntered visitor.who.by visitor.who.seq visitor.moment outcome h after came in
    if_ok c.look_at.result c.look_at.ensures.entered (λ came then. full_entered c.args.sent.now.version visitor.who.by visitor.who.seq visitor.moment c.args.sent.now.least c.args.part log after c.args.sent.now.batch came
    c.append_view.ensures.was_kept c.requires (c.in-Err-LogFull.ensures.full.0 (ap Err c.in-Err-LogFull.field-0-is)) (subst (Then came) c.in-Err-LogFull.ensures.refused (λ outcome is. then outcome (is ∙ ap (λ (z : ℤ). look (Refused z)) (sym code)))))
