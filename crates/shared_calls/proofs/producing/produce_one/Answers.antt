use Rattle.std.proofs.Common.{◌≡◌, ℤ, subst, arith, rules}
use Rattle.std.proofs.lemmas.Int.{to_z-of_z}
use Rattle.std.specs.Int.{w16}
use mir.Val.{SFits}
use Rattle.kanswer.specs.declared.accepted.Accepted.TheVariants.{Refused}
use Rattle.kanswer.specs.Decisions.{AskLog}
use Rattle.kanswer.specs.Sent.{sent_outcome}
use Rattle.shared_calls.specs.Stand.{HasProduced, IsStopped, stand}
use Rattle.shared_calls.proofs.One.{on_err, on_err_then, on_ok, one_more, refused_produced, refused_stopped, whatever_one}
use Rattle.shared_calls.proofs.Turning.{logs_size}
use Rattle.shared_calls.proofs.producing.produce_one.Goals as goal

pub put_one-requires-clause-there : goal.put_one-requires-clause-there
put_one-requires-clause-there g c = omega (arith, c.in-Ok.ensures.within, logs_size c.args.call.now.config.now c.args.call.now.by.now.logs.now c.requires.followers)

pub returns-in-Err-clause-come : goal.returns-in-Err-clause-come
returns-in-Err-clause-come g c =
    let fits : SFits w16 c.in-Err.code = search rules in
    on_ok c.note.result c.note.ensures (λ e. refused_produced c.args.call.now.config.now c.args.call.now.by.now.seq c.args.call.now.terms (c.args.named.now.topic.now, c.args.named.now.part.now) c.in-Err.code c.args.pass.now c.args.points.now c.args.came.now c.note.new.self c.read_nothing.result c.in-Err.ensures.refused
    (subst (λ (z : ℤ). c.note.new.self ≡ one_more c.args.came.now (Refused z) c.read_nothing.result) (to_z-of_z w16 c.in-Err.code fits) e))

pub returns-in-Err-clause-stopped : goal.returns-in-Err-clause-stopped
returns-in-Err-clause-stopped g c =
    on_err c.note.result (refused_stopped c.args.call.now.config.now c.args.call.now.by.now.seq c.args.call.now.terms (c.args.named.now.topic.now, c.args.named.now.part.now) c.in-Err.code c.args.pass.now c.args.points.now c.args.came.now c.in-Err.ensures.refused)

pub returns-in-Ok-clause-come : goal.returns-in-Ok-clause-come
returns-in-Ok-clause-come g c =
    let number = c.in-Ok.number in
    let sent = c.in-Ok.sent in
    on_ok c.put_one.result c.put_one.ensures.come (λ p.
    whatever_one c.args.call.now.config.now c.args.call.now.terms (c.args.named.now.topic.now, c.args.named.now.part.now) (AskLog number (sent_outcome number sent))
    (λ next. HasProduced c.args.call.now.config.now c.args.call.now.by.now.seq next (stand c.args.pass.now c.args.points.now c.args.came.now) (stand c.put_one.new.pass c.put_one.new.points c.put_one.new.came)) c.in-Ok.ensures.put p)

pub returns-in-Ok-clause-stopped : goal.returns-in-Ok-clause-stopped
returns-in-Ok-clause-stopped g c =
    let number = c.in-Ok.number in
    let sent = c.in-Ok.sent in
    on_err_then c.put_one.result c.put_one.ensures.stopped (λ p.
    whatever_one c.args.call.now.config.now c.args.call.now.terms (c.args.named.now.topic.now, c.args.named.now.part.now) (AskLog number (sent_outcome number sent))
    (λ next. IsStopped c.args.call.now.config.now c.args.call.now.by.now.seq next (stand c.args.pass.now c.args.points.now c.args.came.now) c.put_one.new.pass c.put_one.new.points) c.in-Ok.ensures.put p)
