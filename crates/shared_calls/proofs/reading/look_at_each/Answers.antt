use Rattle.std.proofs.Common.{◌≡◌, ◌<◌, ◌+◌, ℕ, All, List, [], ◌∷◌, ◌++◌, ap, arith, get_or, length, pos, subst, sym, take}
use Rattle.std.proofs.lemmas.List.{length_push, take_more}
use Rattle.std.proofs.lemmas.List.Elements.{All-push}
use Rattle.kanswer.specs.declared.accepted.Accepted.{Accepted}
use Rattle.kanswer.specs.declared.accepted.Accepted.TheVariants.{Refused}
use Rattle.kanswer.specs.declared.accepted.Reading.{Reading}
use Rattle.kanswer.specs.LogReadings.{HasCarriable}
use Rattle.kanswer.proofs.Laws.{bytes_push}
use Rattle.kanswer.specs.BytesRead.{bytes_read}
use Rattle.kanswer.specs.PartitionGauges.{high_gauge}
use Rattle.shared_calls.specs.Fresh.{IsFresh}
use Rattle.shared_calls.specs.Readings.{WereNumbered}
use Rattle.shared_calls.proofs.Asked.{one_below}
use Rattle.shared_calls.proofs.Looks.{looked_stopped, stopped_at}
use Rattle.shared_calls.proofs.Readings.{numbered_none, numbered_on}
use Rattle.shared_calls.proofs.Telling.{on_err}
use Rattle.shared_calls.proofs.reading.look_at_each.Goals as goal

pub loop-became-init : goal.loop-became-init
loop-became-init g c =
    let call = c.args.call.now in
    let a = c.args.pass.now in
    let p = c.args.points.now in
    let fresh = IsFresh high_gauge call.needs.now call.values.now in
    record {
      made = c.requires.made;
      looked = subst (WereNumbered call.by.now.seq fresh a p [] a p) (sym c.new-readings.ensures) (numbered_none call.by.now.seq fresh a p);
      offsets = λ k d lt. absurd (omega (arith, lt, ap (λ (rs : List Reading). length rs) c.new-readings.ensures));
      size = ap (λ (rs : List Reading). length rs) c.new-readings.ensures;
      none = ap bytes_read c.new-readings.ensures;
    }

pub look_at-requires-clause-there : goal.look_at-requires-clause-there
look_at-requires-clause-there g c =
    let lt : c.loop-became.became-index < length c.args.accepted.now = omega (arith, c.loop-became-test.true) in
    one_below (length c.args.call.now.by.now.logs.now.parts) c.args.accepted.now c.loop-became.became-index (Refused (pos 0)) c.requires.there lt

pub returns-in_err-look_at-clause-stopped : goal.returns-in_err-look_at-clause-stopped
returns-in_err-look_at-clause-stopped g c =
    let call = c.args.call.now in
    let l = c.loop-became in
    let new = c.look_at.new in
    let fresh = IsFresh high_gauge call.needs.now call.values.now in
    let lt : l.became-index < length c.args.accepted.now = omega (arith, c.loop-became-test.true) in
    on_err c.from_residual.result
    (stopped_at call.by.now.seq fresh c.args.pass.now l.pass new.pass c.args.points.now l.points new.points c.args.accepted.now l.became-index (Refused (pos 0)) l.invariant.looked.states lt l.invariant.looked.looked c.in_err-look_at.ensures.stopped)

pub returns-in_err-push-clause-stopped : goal.returns-in_err-push-clause-stopped
returns-in_err-push-clause-stopped g c =
    let call = c.args.call.now in
    let l = c.loop-became in
    let new = c.look_at.new in
    let fresh = IsFresh high_gauge call.needs.now call.values.now in
    let lt : l.became-index < length c.args.accepted.now = omega (arith, c.loop-became-test.true) in
    let one = c.in_ok-look_at.ensures.looked in
    let stopped = looked_stopped call.by.now.seq fresh l.pass new.pass l.points new.points (get_or c.args.accepted.now l.became-index (Refused (pos 0)) ∷ []) one.states one.looked in
    on_err c.from_residual-in_err-push.result
    (stopped_at call.by.now.seq fresh c.args.pass.now l.pass new.pass c.args.points.now l.points new.points c.args.accepted.now l.became-index (Refused (pos 0)) l.invariant.looked.states lt l.invariant.looked.looked stopped)

pub loop-became-preserved : goal.loop-became-preserved
loop-became-preserved g c =
    let call = c.args.call.now in
    let a = c.args.pass.now in
    let p = c.args.points.now in
    let xs = c.args.accepted.now in
    let l = c.loop-became in
    let i = l.became-index in
    let new = c.look_at.new in
    let reading = c.in_ok-look_at.field-0 in
    let fresh = IsFresh high_gauge call.needs.now call.values.now in
    let lt : i < length xs = omega (arith, c.loop-became-test.true) in
    let pushed : c.push.new.self ≡ l.readings ++ reading ∷ [] = c.in_ok-push.ensures.ok in
    let both = numbered_on call.by.now.seq fresh a l.pass new.pass p l.points new.points (take i xs) (get_or xs i (Refused (pos 0)) ∷ []) l.readings (reading ∷ []) l.invariant.looked c.in_ok-look_at.ensures.looked in
    let front = subst (λ (ys : List Accepted). WereNumbered call.by.now.seq fresh a p ys new.pass new.points (l.readings ++ reading ∷ [])) (sym (take_more xs i (Refused (pos 0)) lt)) both in
    record {
      made = c.look_at.ensures.made;
      looked = subst (WereNumbered call.by.now.seq fresh a p (take (i + 1) xs) new.pass new.points) (sym pushed) front;
      offsets = subst (All HasCarriable) (sym pushed) (All-push HasCarriable l.readings reading l.invariant.offsets c.in_ok-look_at.ensures.offset);
      size = omega (arith, ap (λ (rs : List Reading). length rs) pushed, length_push l.readings reading, l.invariant.size);
      none = omega (arith, ap bytes_read pushed, bytes_push l.readings reading, l.invariant.none, ap (λ (bs : List ℕ). length bs) c.in_ok-look_at.ensures.none);
    }
