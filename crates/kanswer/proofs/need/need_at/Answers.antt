use Rattle.std.proofs.Common.{◌≡◌, ℤ, pos, List, Some, None, get_or, option_copied, arith, sym, ap, subst, ◌∙◌, rules}
use Rattle.std.specs.List.{slice_get}
use Rattle.std.specs.Int.{w32}
use Rattle.std.proofs.lemmas.Int.{to_z-of_z}
use mir.Val.{SFits}
use Rattle.kwire.specs.declared.view.AskView.{AskView}
use Rattle.kwire.specs.declared.request.FetchTopic.{FetchTopic}
use Rattle.kwire.specs.Views.{ask_of}
use Rattle.kanswer.specs.declared.accepted.Accepted.TheVariants.{Refused}
use Rattle.kanswer.specs.Answer.{asked_parts}
use Rattle.kanswer.specs.Results.{AreResults}
use Rattle.kanswer.specs.Waiting.{fetch_need, needs_by_part}
use Rattle.kanswer.proofs.Waits.{asked_there, need_of_fetch, need_of_produce}
use Rattle.kanswer.proofs.need.need_at.Goals as goal

pub returns-in_err-asked-in-Fetch-clause-need : goal.returns-in_err-asked-in-Fetch-clause-need
returns-in_err-asked-in-Fetch-clause-need c =
    let a = c.in-Fetch in
    let none : slice_get (asked_parts a.topics) c.args.at ≡ None =
    sym (c.asked_at.ensures ∙ ap (λ (ts : List FetchTopic). slice_get (asked_parts ts) c.args.at) c.as_slice.ensures) ∙ ap option_copied c.in_err-asked-in-Fetch.was in
    let Are : AskView → Type 0 = λ v. AreResults (ask_of v) c.args.accepted.now in
    let are = subst Are a.is c.requires.results in
    absurd (asked_there a.topics c.args.at (omega (arith, are.each, c.requires.within)) none)

pub returns-in-Produce-clause-need : goal.returns-in-Produce-clause-need
returns-in-Produce-clause-need c =
    let Holds : AskView → Type 0 = λ v. slice_get (needs_by_part (ask_of v) c.args.accepted.now) c.args.at ≡ Some c.produce_need.result in
    subst Holds (sym c.in-Produce.is) (need_of_produce c.args.accepted.now c.args.at (Refused (pos 0)) c.requires.within ∙ ap Some (sym c.produce_need.ensures.need))

pub returns-in_ok-asked-in-Fetch-clause-need : goal.returns-in_ok-asked-in-Fetch-clause-need
returns-in_ok-asked-in-Fetch-clause-need c =
    let a = c.in-Fetch in
    let asked = c.in_ok-asked-in-Fetch.asked.now in
    let became = get_or c.args.accepted.now c.args.at (Refused (pos 0)) in
    let fits : SFits w32 a.replica = search rules in
    let found : slice_get (asked_parts a.topics) c.args.at ≡ Some asked =
    sym (c.asked_at.ensures ∙ ap (λ (ts : List FetchTopic). slice_get (asked_parts ts) c.args.at) c.as_slice.ensures) ∙ ap option_copied c.in_ok-asked-in-Fetch.was in
    let Holds : AskView → Type 0 = λ v. slice_get (needs_by_part (ask_of v) c.args.accepted.now) c.args.at ≡ Some c.fetch_need.result in
    let need = c.fetch_need.ensures.need ∙ ap (λ (r : ℤ). fetch_need r (asked, became)) (to_z-of_z w32 a.replica fits) in
    subst Holds (sym a.is) (need_of_fetch a.replica a.topics c.args.accepted.now c.args.at asked (Refused (pos 0)) found c.requires.within ∙ ap Some (sym need))
