use Rattle.std.proofs.Common.{◌≡◌, ◌<◌, ℕ, ℤ, List, [], ◌∷◌, length, get_or, set, Option, Some, None, refl, sym, ap, subst, ◌∙◌, arith, pos, rules}
use Rattle.std.proofs.lemmas.Int.{to_z-of_z}
use Rattle.std.specs.Int.{w32}
use mir.Val.{SFits}
use Rattle.kwire.specs.Configuration.{followers_of, part_of}
use Rattle.kanswer.specs.Decisions.{fetch_outcome, fetch_decision}
use Rattle.lone_broker.specs.Carried.{IsEntered, IsCarried}
use Rattle.std.proofs.lemmas.List.{get_or_default}
use Rattle.audit.proofs.Laws.{on_ok}
use Rattle.lone_broker.proofs.DecisionSteps.{refusal_carried, entered_carried}
use Rattle.lone_broker.proofs.Followers.{followers_at, parts_size}
use Rattle.lone_broker.proofs.accept.fetch_one.Goals as goal

pub returns-in_default : goal.returns-in_default
returns-in_default c =
    let call = c.args.call.now in
    let asked = c.args.asked.now in
    let fits : SFits w32 asked.index = search rules in
    let none : part_of call.config.now c.args.topic.now asked.index ≡ None = ap (part_of call.config.now c.args.topic.now) (sym (to_z-of_z w32 asked.index fits)) ∙ sym c.in_default.ensures.number in
    let D : Option ℕ → Type 0 = λ o. IsCarried call.visitor.who.by call.visitor.who.seq call.visitor.moment (fetch_decision call.config.now c.args.call.now.replica (c.args.topic.now, asked) o ∷ []) c.args.parts.now c.args.parts.now c.args.came.now c.note.new.self in
    on_ok c.note.result c.note.ensures (λ k. subst D (sym none) (refusal_carried call.visitor.who.by call.visitor.who.seq call.visitor.moment (pos 3) c.args.parts.now c.args.came.now c.note.new.self k))

pub returns : goal.returns
returns c =
    let call = c.args.call.now in
    let config = call.config.now in
    let asked = c.args.asked.now in
    let part = c.in-Some.part in
    let replica = c.args.call.now.replica in
    let parts = c.args.parts.now in
    let fits : SFits w32 asked.index = search rules in
    let there : part_of config c.args.topic.now asked.index ≡ Some part = ap (part_of config c.args.topic.now) (sym (to_z-of_z w32 asked.index fits)) ∙ sym c.in-Some.ensures.number in
    let within : part < length parts = omega (arith, c.in-Some.ensures.within, parts_size config.topics parts c.requires) in
    let h = get_or parts part c.index-parts-part.result in
    let left = c.accept_fetch_part.new.log in
    let later = c.accept_fetch_part.new.came in
    let count : h.followers ≡ get_or (followers_of config.topics) part 0 = sym (followers_at parts part c.index-parts-part.result within) ∙ ap (λ (ns : List ℕ). get_or ns part 0) c.requires in
    let Enters : ℕ → ℤ → Type 0 = λ followers r. IsEntered call.visitor.who.by call.visitor.who.seq call.visitor.moment part (fetch_outcome followers r asked part) h left c.args.came.now later in
    let D : Option ℕ → Type 0 = λ o. IsCarried call.visitor.who.by call.visitor.who.seq call.visitor.moment (fetch_decision config replica (c.args.topic.now, asked) o ∷ []) parts (set parts part left) c.args.came.now later in
    on_ok c.accept_fetch_part.result c.accept_fetch_part.ensures (λ e. subst D (sym there)
    (entered_carried call.visitor.who.by call.visitor.who.seq call.visitor.moment part parts (set parts part left) h left (fetch_outcome (get_or (followers_of config.topics) part 0) replica asked part) c.args.came.now later within (get_or_default parts part c.index-parts-part.result h within)
    (subst (λ (f : ℕ). Enters f replica) count e) refl))

pub bounds-parts-part : goal.bounds-parts-part
bounds-parts-part c = omega (arith, c.in-Some.ensures.within, parts_size c.args.call.now.config.now.topics c.args.parts.now c.requires)
