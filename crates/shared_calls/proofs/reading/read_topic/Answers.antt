use Rattle.std.proofs.Common.{◌≡◌, ◌∙◌, ◌<◌, ◌+◌, All, List, [], ◌∷◌, ◌++◌, ap, append-nil, append_assoc, arith, get_or, length, pos, subst, sym, take}
use Rattle.std.proofs.lemmas.List.{length_push, take_more}
use Rattle.std.proofs.lemmas.List.Elements.{All-push}
use Rattle.kanswer.specs.declared.accepted.Accepted.{Accepted}
use Rattle.kanswer.specs.declared.accepted.Accepted.TheVariants.{Refused}
use Rattle.kanswer.specs.declared.accepted.Reading.{Reading}
use Rattle.kanswer.specs.LogReadings.{HasCarriable}
use Rattle.kwire.specs.declared.request.FetchPart.{FetchPart}
use Rattle.kanswer.proofs.Laws.{bytes_push}
use Rattle.kanswer.specs.BytesRead.{bytes_read}
use Rattle.kanswer.specs.PartitionGauges.{fetched_gauge}
use Rattle.shared_calls.specs.Fresh.{IsFresh}
use Rattle.shared_calls.specs.Readings.{WereRead}
use Rattle.shared_calls.proofs.Asked.{one_below}
use Rattle.shared_calls.proofs.Looks.{looked_stopped, stopped_at}
use Rattle.shared_calls.proofs.Readings.{read_none, read_on}
use Rattle.shared_calls.proofs.Telling.{on_err}
use Rattle.shared_calls.proofs.reading.read_topic.Goals as goal

pub loop-at-init : goal.loop-at-init
loop-at-init g c =
    let call = c.args.call.now.looking in
    let replica = c.args.call.now.replica in
    let fresh = IsFresh (fetched_gauge replica) call.needs.now call.values.now in
    record {
      made = c.requires.made;
      read = ([], sym (append-nil c.args.readings.now), read_none call.by.now.seq fresh replica c.args.pass.now c.args.points.now c.args.budget.now);
      offsets = λ all. all;
      size = omega arith;
      room = omega arith;
    }

pub read_at-requires-clause-there : goal.read_at-requires-clause-there
read_at-requires-clause-there g c =
    let lt : c.loop-at.at < length c.args.accepted.now = omega (arith, c.loop-at-test.true, c.requires.size) in
    one_below (length c.args.call.now.looking.by.now.logs.now.parts) c.args.accepted.now c.loop-at.at (Refused (pos 0)) c.requires.there lt

pub returns-in_err-reading-clause-stopped : goal.returns-in_err-reading-clause-stopped
returns-in_err-reading-clause-stopped g c =
    let call = c.args.call.now.looking in
    let a = c.args.pass.now in
    let p = c.args.points.now in
    let xs = c.args.accepted.now in
    let l = c.loop-at in
    let new = c.read_at.new in
    let replica = c.args.call.now.replica in
    let fresh = IsFresh (fetched_gauge replica) call.needs.now call.values.now in
    let lt : l.at < length xs = omega (arith, c.loop-at-test.true, c.requires.size) in
    let read = l.invariant.read.2 in
    let stopped = stopped_at call.by.now.seq fresh a l.pass new.pass p l.points new.points xs l.at (Refused (pos 0)) read.states lt read.looked c.in_err-reading.ensures.stopped in
    on_err c.from_residual.result stopped

pub returns-in_err-push-clause-stopped : goal.returns-in_err-push-clause-stopped
returns-in_err-push-clause-stopped g c =
    let call = c.args.call.now.looking in
    let a = c.args.pass.now in
    let p = c.args.points.now in
    let xs = c.args.accepted.now in
    let l = c.loop-at in
    let new = c.read_at.new in
    let replica = c.args.call.now.replica in
    let fresh = IsFresh (fetched_gauge replica) call.needs.now call.values.now in
    let lt : l.at < length xs = omega (arith, c.loop-at-test.true, c.requires.size) in
    let read = l.invariant.read.2 in
    let one = c.in_ok-reading.ensures.read in
    let here = looked_stopped call.by.now.seq fresh l.pass new.pass l.points new.points (get_or xs l.at (Refused (pos 0)) ∷ []) one.states one.looked in
    let stopped = stopped_at call.by.now.seq fresh a l.pass new.pass p l.points new.points xs l.at (Refused (pos 0)) read.states lt read.looked here in
    on_err c.from_residual-in_err-push.result stopped

pub loop-at-preserved : goal.loop-at-preserved
loop-at-preserved g c =
    let call = c.args.call.now.looking in
    let a = c.args.pass.now in
    let p = c.args.points.now in
    let xs = c.args.accepted.now in
    let ps = c.args.asked.now in
    let l = c.loop-at in
    let i = l.at in
    let new = c.read_at.new in
    let reading = c.in_ok-reading.reading in
    let replica = c.args.call.now.replica in
    let fresh = IsFresh (fetched_gauge replica) call.needs.now call.values.now in
    let lt : i < length xs = omega (arith, c.loop-at-test.true, c.requires.size) in
    let less : i < length ps = omega (arith, c.loop-at-test.true) in
    let more = l.invariant.read.0 in
    let pushed : c.push.new.self ≡ l.readings ++ reading ∷ [] = c.in_ok-push.ensures.ok in
    let x : Accepted = get_or xs i (Refused (pos 0)) in
    let none : FetchPart = record { index = pos 0; offset = pos 0; log_start = pos 0; most = pos 0 } in
    let m : FetchPart = get_or ps i none in
    let both = read_on call.by.now.seq fresh replica a l.pass new.pass p l.points new.points (take i xs) (x ∷ []) more (reading ∷ []) (take i ps) (m ∷ []) c.args.budget.now l.budget new.budget l.invariant.read.2 c.in_ok-reading.ensures.read in
    let results = subst (λ (ys : List Accepted). WereRead call.by.now.seq fresh replica (take i ps ++ m ∷ []) a p ys c.args.budget.now new.pass new.points new.budget (more ++ reading ∷ [])) (sym (take_more xs i (Refused (pos 0)) lt)) both in
    let parts = subst (λ (ms : List FetchPart). WereRead call.by.now.seq fresh replica ms a p (take (i + 1) xs) c.args.budget.now new.pass new.points new.budget (more ++ reading ∷ [])) (sym (take_more ps i none less)) results in
    let room = c.in_ok-reading.ensures.room in
    record {
      made = c.read_at.ensures.made;
      read = (more ++ reading ∷ [], pushed ∙ ap (λ (rs : List Reading). rs ++ reading ∷ []) l.invariant.read.1 ∙ append_assoc c.args.readings.now more (reading ∷ []), parts);
      offsets = λ all. subst (All HasCarriable) (sym pushed) (All-push HasCarriable l.readings reading (l.invariant.offsets all) c.in_ok-reading.ensures.offset);
      size = omega (arith, ap (λ (rs : List Reading). length rs) pushed, length_push l.readings reading, l.invariant.size);
      room = omega (arith, ap bytes_read pushed, bytes_push l.readings reading, l.invariant.room, room);
    }
