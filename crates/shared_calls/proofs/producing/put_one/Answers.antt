use Rattle.std.proofs.Common.{[], ◌∷◌, length, sym, ap, subst, arith}
use Rattle.kanswer.specs.Decisions.{AskLog}
use Rattle.kanswer.specs.Sent.{sent_outcome}
use Rattle.shared_calls.specs.Carried.{HasStopped}
use Rattle.shared_calls.proofs.One.{asked_produced, asked_stopped, bytes_more, on_err, on_ok}
use Rattle.shared_calls.proofs.Turning.{asked_high, caught_stopped, inside_of}
use Rattle.shared_calls.proofs.producing.put_one.Goals as goal

pub returns-in_err-put-clause-stopped : goal.returns-in_err-put-clause-stopped
returns-in_err-put-clause-stopped g c =
    let config = c.args.call.now.config.now in
    let seq = c.args.call.now.by.now.seq in
    let next = AskLog c.args.number (sent_outcome c.args.number c.args.sent.now) ∷ [] in
    on_err c.from_residual.result
    (subst (HasStopped config seq next c.args.pass.now c.args.points.now c.put.new.pass) (sym c.in_err-put.ensures.none)
    (caught_stopped config c.args.pass.now c.put.new.pass c.in_err-put.ensures.refused c.put.ensures.seen.0 c.put.ensures.seen.1 seq next c.args.points.now))

pub note-requires-clause-reading : goal.note-requires-clause-reading
note-requires-clause-reading g c =
    let inside = inside_of c.args.call.now.config.now c.args.call.now.by.now.logs.now c.args.pass.now c.args.number c.put.ensures.seen.0 c.requires.made c.requires.there in
    let put = c.in_ok-put.put in
    omega (arith, asked_high c.args.number c.args.call.now.by.now.seq (sent_outcome c.args.number c.args.sent.now) c.args.pass.now c.put.new.pass put.entered put.numbers c.in_ok-put.ensures.asked inside c.put.ensures.seen.1)

pub returns-clause-come : goal.returns-clause-come
returns-clause-come g c =
    let inside = inside_of c.args.call.now.config.now c.args.call.now.by.now.logs.now c.args.pass.now c.args.number c.put.ensures.seen.0 c.requires.made c.requires.there in
    let put = c.in_ok-put.put in
    on_ok c.note.result c.note.ensures (λ e.
    asked_produced c.args.call.now.config.now c.args.number c.args.call.now.by.now.seq (sent_outcome c.args.number c.args.sent.now) c.args.pass.now c.put.new.pass put.entered put.numbers c.in_ok-put.ensures.asked
    c.put.ensures.seen.0 c.put.ensures.seen.1 inside c.args.points.now c.put.new.points c.in_ok-put.ensures.points c.args.came.now c.note.new.self c.new.result e)

pub returns-clause-room : goal.returns-clause-room
returns-clause-room g c =
    let put = c.in_ok-put.put in
    on_ok c.note.result c.note.ensures (λ e.
    omega (arith, bytes_more c.args.came.now c.note.new.self put.entered.became (record { numbers = put.numbers; records = c.new.result }) e, ap length c.new.ensures))

pub returns-clause-stopped : goal.returns-clause-stopped
returns-clause-stopped g c =
    let inside = inside_of c.args.call.now.config.now c.args.call.now.by.now.logs.now c.args.pass.now c.args.number c.put.ensures.seen.0 c.requires.made c.requires.there in
    let put = c.in_ok-put.put in
    on_err c.note.result
    (asked_stopped c.args.call.now.config.now c.args.number c.args.call.now.by.now.seq (sent_outcome c.args.number c.args.sent.now) c.args.pass.now c.put.new.pass put.entered put.numbers c.in_ok-put.ensures.asked
    c.put.ensures.seen.0 c.put.ensures.seen.1 inside c.args.points.now c.put.new.points c.in_ok-put.ensures.points)
