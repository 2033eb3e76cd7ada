use Rattle.std.proofs.Common.{◌≡◌, ◌<◌, ℕ, ℤ, [], ◌∷◌, length, get_or, Option, Some, None, ap, sym, subst, ◌∙◌, arith, pos, rules}
use Rattle.std.proofs.lemmas.Int.{to_z-of_z}
use Rattle.std.specs.Int.{w32}
use Rattle.std.specs.Prelude.{slice_get, slice_index}
use Rattle.std.proofs.lemmas.Option.{slice_get-get_or}
use mir.Val.{SFits, to_z, of_z}
use Rattle.partlog.specs.State.{state_before}
use Rattle.kwire.specs.Configuration.{followers_of, part_of}
use Rattle.kanswer.specs.Decisions.{fetch_outcome, fetch_decision}
use Rattle.audit.proofs.Laws.{on_ok}
use Rattle.audit.specs.retelling.Retells.{Retells}
use Rattle.audit.proofs.retelling.ByPoints.{asked_retells, unasked_retells, refused_retells, item_there, none_there}
use Rattle.audit.proofs.retelling.accepting.retell_fetch_part.Goals as goal

pub returns : goal.returns
returns c =
    let config = c.args.scene.now.config.now in
    let pasts = c.args.scene.now.pasts.now in
    let points = c.args.scene.now.points.now in
    let asked = c.args.asked.now in
    let part = c.in-Some.part in
    let replica = c.args.replica in
    let point = c.in-Some-get.point.now in
    let past = get_or pasts part c.index-scene-part.result in
    let fits : SFits w32 asked.index = search rules in
    let there : part_of config c.args.topic.now asked.index ≡ Some part = ap (part_of config c.args.topic.now) (sym (to_z-of_z w32 asked.index fits)) ∙ sym c.in-Some.ensures.number in
    let found = c.in-Some-get.ensures.lookup in
    let at : slice_get points c.args.retold.now.taken ≡ Some point = ap (slice_get points) (sym c.taken.ensures) ∙ item_there points c.taken.result point found.3.0 found.1 in
    let within : part < length pasts = omega (arith, c.in-Some.ensures.within, c.requires) in
    let followers = slice_index (followers_of config.topics) part in
    let is = c.seen-became.ensures.outcome
    ∙ ap (λ (n : ℕ). (fetch_outcome n (to_z w32 (of_z w32 replica)) asked part (state_before past point.place)).result) c.followers_of-followers.ensures
    ∙ ap (λ (r : ℤ). (fetch_outcome followers r asked part (state_before past point.place)).result) (to_z-of_z w32 replica c.ranges.replica) in
    let D : Option ℕ → Type 0 = λ o. Retells pasts points (fetch_decision config replica (c.args.topic.now, asked) o ∷ []) c.args.retold.now c.ask.new.self in
    on_ok c.ask.result c.ask.ensures (λ e. subst D (sym there) (asked_retells pasts points part (fetch_outcome followers replica asked part) c.args.retold.now c.ask.new.self point past c.seen-became.result
    at (slice_get-get_or pasts part c.index-scene-part.result within) is e))

pub returns-in_default : goal.returns-in_default
returns-in_default c =
    let config = c.args.scene.now.config.now in
    let asked = c.args.asked.now in
    let fits : SFits w32 asked.index = search rules in
    let none : part_of config c.args.topic.now asked.index ≡ None = ap (part_of config c.args.topic.now) (sym (to_z-of_z w32 asked.index fits)) ∙ sym c.in_default.ensures.number in
    let D : Option ℕ → Type 0 = λ o. Retells c.args.scene.now.pasts.now c.args.scene.now.points.now (fetch_decision config c.args.replica (c.args.topic.now, asked) o ∷ []) c.args.retold.now c.refuse.new.self in
    on_ok c.refuse.result c.refuse.ensures (λ e. subst D (sym none) (refused_retells c.args.scene.now.pasts.now c.args.scene.now.points.now (pos 3) c.args.retold.now c.refuse.new.self e))

pub returns-in_default-get : goal.returns-in_default-get
returns-in_default-get c =
    let config = c.args.scene.now.config.now in
    let points = c.args.scene.now.points.now in
    let asked = c.args.asked.now in
    let part = c.in-Some.part in
    let fits : SFits w32 asked.index = search rules in
    let there : part_of config c.args.topic.now asked.index ≡ Some part = ap (part_of config c.args.topic.now) (sym (to_z-of_z w32 asked.index fits)) ∙ sym c.in-Some.ensures.number in
    let none : slice_get points c.args.retold.now.taken ≡ None = ap (slice_get points) (sym c.taken.ensures) ∙ none_there points c.taken.result c.in_default-get.ensures.lookup.3 in
    let D : Option ℕ → Type 0 = λ o. Retells c.args.scene.now.pasts.now points (fetch_decision config c.args.replica (c.args.topic.now, asked) o ∷ []) c.args.retold.now c.args.retold.now in
    subst D (sym there) (unasked_retells c.args.scene.now.pasts.now points part (fetch_outcome (slice_index (followers_of config.topics) part) c.args.replica asked part) c.args.retold.now c.args.retold.now none)
