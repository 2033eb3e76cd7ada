use Rattle.std.proofs.Common.{◌≡◌, ℕ, List, length, ap, sym, subst, ◌∙◌}
use Rattle.std.specs.List.{AllByRecursion}
use Rattle.std.proofs.lemmas.List.{length-map}
use Rattle.kwire.specs.declared.request.Request.{Request}
use Rattle.kanswer.specs.declared.accepted.Accepted.{Accepted}
use Rattle.kanswer.specs.Answer.{answer}
use Rattle.audit.specs.Histories.{history_of}
use Rattle.audit.specs.retelling.WasShown.{AreShown, HasPast, told_places}
use Rattle.audit.proofs.retelling.Answered.{call_read, told_places_long}
use Rattle.audit.proofs.retelling.LawfulParts.{parts_long}
use Rattle.audit.proofs.retelling.Reread.{if_ok_then}
use Rattle.audit.proofs.retelling.reply.reply_to.Goals as goal

pub retell-requires : goal.retell-requires
retell-requires c = ap length c.requires.pasts ∙ length-map c.args.account.now.parts history_of ∙ parts_long c.args.account.now c.requires.logs

pub answer_at-requires-clause-results : goal.answer_at-requires-clause-results
answer_at-requires-clause-results c =
    let account = c.args.account.now in
    let pasts = c.args.pasts.now in
    let call = c.args.call.now in
    let after = c.retell.new.retold in
    let told = call_read account pasts call c.in-Ok.request c.as_slice.result.now c.as_slice-2.result.now c.new-retold.result after c.requires.lawful c.requires.answered c.requires.logs c.requires.pasts
    c.as_slice.ensures c.as_slice-2.ensures c.new-retold.ensures c.in-Ok.ensures.request c.in_ok-retell.ensures in
    let accepted : c.as_slice-accepted.result.now ≡ after.accepted = c.as_slice-accepted.ensures ∙ c.into_parts-accepted.ensures.accepted in
    ap length accepted ∙ told.long

pub answer_at-requires-clause-places : goal.answer_at-requires-clause-places
answer_at-requires-clause-places c =
    let account = c.args.account.now in
    let pasts = c.args.pasts.now in
    let call = c.args.call.now in
    let after = c.retell.new.retold in
    let told = call_read account pasts call c.in-Ok.request c.as_slice.result.now c.as_slice-2.result.now c.new-retold.result after c.requires.lawful c.requires.answered c.requires.logs c.requires.pasts
    c.as_slice.ensures c.as_slice-2.ensures c.new-retold.ensures c.in-Ok.ensures.request c.in_ok-retell.ensures in
    let accepted : c.as_slice-accepted.result.now ≡ after.accepted = c.as_slice-accepted.ensures ∙ c.into_parts-accepted.ensures.accepted in
    let places : c.as_slice-3.result.now ≡ told_places call.how after.accepted after.places call.finish =
    c.as_slice-3.ensures ∙ c.in_ok-places.ensures
    ∙ ap (λ (l : List Accepted). told_places call.how l c.into_parts-accepted.result.1 call.finish) accepted
    ∙ ap (λ (l : List ℕ). told_places call.how after.accepted l call.finish) c.into_parts-accepted.ensures.places in
    ap length places ∙ told_places_long call.how after.accepted after.places call.finish told.placed ∙ sym (ap length accepted)

pub answer_at-requires-clause-pasts : goal.answer_at-requires-clause-pasts
answer_at-requires-clause-pasts c =
    let account = c.args.account.now in
    let pasts = c.args.pasts.now in
    let call = c.args.call.now in
    let after = c.retell.new.retold in
    let told = call_read account pasts call c.in-Ok.request c.as_slice.result.now c.as_slice-2.result.now c.new-retold.result after c.requires.lawful c.requires.answered c.requires.logs c.requires.pasts
    c.as_slice.ensures c.as_slice-2.ensures c.new-retold.ensures c.in-Ok.ensures.request c.in_ok-retell.ensures in
    let accepted : c.as_slice-accepted.result.now ≡ after.accepted = c.as_slice-accepted.ensures ∙ c.into_parts-accepted.ensures.accepted in
    subst (AllByRecursion (HasPast (length pasts))) (sym accepted) told.past

pub answer_at-requires-clause-asked : goal.answer_at-requires-clause-asked
answer_at-requires-clause-asked c = (c.as_slice.result.now, c.in-Ok.ensures.request)

pub returns : goal.returns
returns c =
    let account = c.args.account.now in
    let pasts = c.args.pasts.now in
    let call = c.args.call.now in
    let after = c.retell.new.retold in
    let told = call_read account pasts call c.in-Ok.request c.as_slice.result.now c.as_slice-2.result.now c.new-retold.result after c.requires.lawful c.requires.answered c.requires.logs c.requires.pasts
    c.as_slice.ensures c.as_slice-2.ensures c.new-retold.ensures c.in-Ok.ensures.request c.in_ok-retell.ensures in
    let accepted : c.as_slice-accepted.result.now ≡ after.accepted = c.as_slice-accepted.ensures ∙ c.into_parts-accepted.ensures.accepted in
    let places : c.as_slice-3.result.now ≡ told_places call.how after.accepted after.places call.finish =
    c.as_slice-3.ensures ∙ c.in_ok-places.ensures
    ∙ ap (λ (l : List Accepted). told_places call.how l c.into_parts-accepted.result.1 call.finish) accepted
    ∙ ap (λ (l : List ℕ). told_places call.how after.accepted l call.finish) c.into_parts-accepted.ensures.places in
    let are = subst (λ (l : List Accepted). AreShown pasts l c.as_slice-3.result.now told.shown) (sym accepted) (subst (λ (l : List ℕ). AreShown pasts after.accepted l told.shown) (sym places) told.are) in
    record {
      reply = if_ok_then c.answer_at.result c.answer_at.ensures.reply (λ reply e. record {
        whole = told.whole;
        shown = told.shown;
        shows = told.shows;
        answered = e told.shown are ∙ ap (λ (r : Request). answer account.config r told.shown) told.asked;
      });
      framed = if_ok_then c.answer_at.result c.answer_at.ensures.framed (λ reply f. f told.shown are);
    }
