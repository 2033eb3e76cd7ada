use Rattle.std.proofs.Common.{◌+◌, ◌<◌, ◌≤◌, ◌∷◌, [], List, All, length-append, length, take, sym, ap, subst, arith}
use Rattle.std.proofs.lemmas.Option.{slice_get-get_or}
use Rattle.std.proofs.lemmas.List.{take_all}
use Rattle.std.proofs.lemmas.List.Elements.{All-push}
use Rattle.kanswer.specs.Waiting.{Shown}
use Rattle.kanswer.specs.declared.accepted.Accepted.{Accepted}
use Rattle.kanswer.specs.declared.accepted.Reading.{Reading}
use Rattle.kanswer.specs.LogReadings.{HasCarriable, ProduceReadings}
use Rattle.kanswer.proofs.Laws.{bytes_push}
use Rattle.kanswer.specs.BytesRead.{bytes_read}
use Rattle.audit.proofs.retelling.Reread.{produce_next, shown_long}
use Rattle.audit.proofs.retelling.rereading.read_numbers.Goals as goal

pub loop-at-preserved : goal.loop-at-preserved
loop-at-preserved c =
    let i = c.loop-at.at in
    let accepted = c.args.accepted.now in
    let places = c.args.places.now in
    let pushed = c.in_ok-push.ensures.ok in
    let lt : i < length accepted = c.loop-at-test.true in
    record {
      read = λ shown are. subst (λ (gs : List Reading). ProduceReadings (take (i + 1) accepted) gs (take (i + 1) shown)) (sym pushed)
          (produce_next c.args.pasts.now accepted places c.loop-at.readings i _ _ c.read_appended.result c.loop-at.invariant.read c.read_appended.ensures.read (slice_get-get_or accepted i _ lt) (slice_get-get_or places i _ (omega (arith, lt, c.requires.places))) shown are);
      size = omega (arith, ap length pushed, length-append c.loop-at.readings (c.read_appended.result ∷ []), c.loop-at.invariant.size);
      offsets = subst (All HasCarriable) (sym pushed) (All-push HasCarriable c.loop-at.readings c.read_appended.result c.loop-at.invariant.offsets c.read_appended.ensures.offset);
      none = omega (arith, ap bytes_read pushed, bytes_push c.loop-at.readings c.read_appended.result, c.loop-at.invariant.none, c.read_appended.ensures.none);
    }

pub returns-clause-read : goal.returns-clause-read
returns-clause-read c = λ shown are.
    let i = c.loop-at.at in
    let accepted = c.args.accepted.now in
    let long = shown_long c.args.pasts.now accepted c.args.places.now shown are in
    let past : length accepted ≤ i = c.loop-at-test.false in
    subst (λ (l : List Shown). ProduceReadings accepted c.loop-at.readings l) (take_all i shown (omega (arith, long, past)))
    (subst (λ (l : List Accepted). ProduceReadings l c.loop-at.readings (take i shown)) (take_all i accepted past) (c.loop-at.invariant.read shown are))
