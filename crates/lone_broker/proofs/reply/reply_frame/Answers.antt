use Rattle.std.proofs.Common.{List, sym, ap, subst, ◌∙◌}
use Rattle.kanswer.specs.declared.accepted.Reading.{Reading}
use Rattle.kanswer.specs.LogReadings.{AreReadings}
use Rattle.lone_broker.specs.Gathered.{shown_in_logs}
use Rattle.kwire.specs.Spelling.{spelling}
use Rattle.lone_broker.proofs.ReadForReply.{if_ok_then}
use Rattle.lone_broker.proofs.Alike.{same_answer}
use Rattle.lone_broker.proofs.reply.reply_frame.Goals as goal

pub reply_frame-requires-clause-read : goal.reply_frame-requires-clause-read
reply_frame-requires-clause-read c =
    let now = shown_in_logs c.args.parts.now c.args.accepted.now in
    (now, subst (λ (rs : List Reading). AreReadings c.args.request.now.ask c.args.accepted.now rs now) (sym c.as_slice.ensures) c.in_ok-readings.ensures.read)

pub returns : goal.returns
returns c =
    let now = shown_in_logs c.args.parts.now c.args.accepted.now in
    let are = subst (λ (rs : List Reading). AreReadings c.args.request.now.ask c.args.accepted.now rs now) (sym c.as_slice.ensures) c.in_ok-readings.ensures.read in
    if_ok_then c.reply_frame.result c.reply_frame.ensures (λ frame told shown shows.
    told now are ∙ ap spelling (sym (same_answer c.args.config.now c.args.parts.now c.args.request.now c.args.accepted.now shown shows)))
