use Rattle.std.proofs.Common.{◌≡◌, ◌+◌, ◌<◌, ◌≤◌, ◌∷◌, [], List, All, length-append, length, map, take, sym, ap, subst, ◌∙◌, arith, option_map}
use Rattle.std.proofs.lemmas.Option.{slice_get-get_or, slice_get-map}
use Rattle.std.proofs.lemmas.List.{take_all, length-map}
use Rattle.std.proofs.lemmas.List.Elements.{All-push}
use Rattle.kwire.specs.declared.request.FetchPart.{FetchPart}
use Rattle.kanswer.specs.Waiting.{Shown}
use Rattle.kanswer.specs.Answer.{budget_behind}
use Rattle.kanswer.specs.declared.accepted.Accepted.{Accepted}
use Rattle.kanswer.specs.declared.accepted.Reading.{Reading}
use Rattle.kanswer.specs.LogReadings.{FetchReadings, HasCarriable}
use Rattle.kanswer.proofs.Laws.{bytes_push}
use Rattle.kanswer.specs.BytesRead.{bytes_read}
use Rattle.audit.proofs.retelling.Reread.{fetch_next, shown_long}
use Rattle.audit.proofs.retelling.rereading.read_fetch.Goals as goal

pub loop-at-preserved : goal.loop-at-preserved
loop-at-preserved c =
    let i = c.loop-at.at in
    let replica = c.args.reader.now.replica in
    let accepted = c.args.accepted.now in
    let places = c.args.places.now in
    let asks = map (λ asked. asked.now) c.args.asked.now in
    let pushed = c.in_ok-push.ensures.ok in
    let lt : i < length c.args.asked.now = c.loop-at-test.true in
    record {
      read = λ shown are. subst (λ (gs : List Reading). FetchReadings replica (take (i + 1) asks) (take (i + 1) accepted) gs (take (i + 1) shown) c.args.budget × (c.read_seen.new.budget ≡ budget_behind replica (take (i + 1) asks) (take (i + 1) shown) c.args.budget)) (sym pushed)
          (fetch_next c.args.reader.now.pasts.now replica asks accepted places c.loop-at.readings i _ _ _ c.in_ok-read_seen.field-0 c.loop-at.budget c.read_seen.new.budget c.args.budget c.loop-at.invariant.read c.in_ok-read_seen.ensures.read c.in_ok-read_seen.ensures.left
          (slice_get-map (λ asked. asked.now) c.args.asked.now i ∙ ap (option_map (λ asked. asked.now)) (slice_get-get_or c.args.asked.now i _ lt)) (slice_get-get_or accepted i _ (omega (arith, lt, c.requires.results))) (slice_get-get_or places i _ (omega (arith, lt, c.requires.places))) shown are);
      size = omega (arith, ap length pushed, length-append c.loop-at.readings (c.in_ok-read_seen.field-0 ∷ []), c.loop-at.invariant.size);
      offsets = subst (All HasCarriable) (sym pushed) (All-push HasCarriable c.loop-at.readings c.in_ok-read_seen.field-0 c.loop-at.invariant.offsets c.in_ok-read_seen.ensures.offset);
      room = omega (arith, ap bytes_read pushed, bytes_push c.loop-at.readings c.in_ok-read_seen.field-0, c.loop-at.invariant.room, c.in_ok-read_seen.ensures.room);
    }

pub returns-clause-read : goal.returns-clause-read
returns-clause-read c = λ shown are.
    let i = c.loop-at.at in
    let accepted = c.args.accepted.now in
    let asks = map (λ asked. asked.now) c.args.asked.now in
    let long = shown_long c.args.reader.now.pasts.now accepted c.args.places.now shown are in
    let past : length c.args.asked.now ≤ i = c.loop-at-test.false in
    let replica = c.args.reader.now.replica in
    subst (λ (l : List Shown). FetchReadings replica asks accepted c.loop-at.readings l c.args.budget) (take_all i shown (omega (arith, long, past, c.requires.results)))
    (subst (λ (l : List Accepted). FetchReadings replica asks l c.loop-at.readings (take i shown) c.args.budget) (take_all i accepted (omega (arith, past, c.requires.results)))
    (subst (λ (l : List FetchPart). FetchReadings replica l (take i accepted) c.loop-at.readings (take i shown) c.args.budget) (take_all i asks (omega (arith, past, length-map c.args.asked.now (λ asked. asked.now)))) (c.loop-at.invariant.read shown are).0))
