use Rattle.std.proofs.Common.{◌≡◌, ℕ, ◌<◌, Bool, true, false, List, length, get_or, set, cond, eqb, arith, ◌∙◌, ap}
use Rattle.std.proofs.lemmas.List.{get_or_default}
use Rattle.room_core.specs.declared.parts.Stage.{Stage}
use Rattle.room_core.specs.declared.parts.Stage.TheVariants.{Checking, Listing}
use Rattle.room_core.specs.CallerTables.{caller_of, table}
use Rattle.room_core.specs.Passes.{all_seen}
use Rattle.room_core.specs.Put.{put}
use Rattle.room_core.proofs.Views.{table_set, put_as}
use Rattle.room_core.proofs.caller_part.CallerPart.sees_mark.Goals as goal

pub returns-clause-part : goal.returns-clause-part
returns-clause-part c =
    let l : c.args.at < length c.args.self.now.seen.items = omega (arith, c.requires, c.args.self.now.whole.seen_size) in
    let old : c.index.result.now ≡ get_or c.args.self.now.seen.items c.args.at false = c.index.ensures ∙ get_or_default c.args.self.now.seen.items c.args.at _ false l in
    let made : c.was_seen-seen.result ≡ cond (eqb c.args.mark c.args.self.now.generation) true (get_or c.args.self.now.seen.items c.args.at false) =
    c.was_seen-seen.ensures ∙ ap (cond (eqb c.args.mark c.args.self.now.generation) true) old in
    let seen : table (set c.args.self.now.seen.items c.args.at c.was_seen-seen.result) false ≡ put (table c.args.self.now.seen.items false) c.args.at (cond (eqb c.args.mark c.args.self.now.generation) true (get_or c.args.self.now.seen.items c.args.at false)) =
    table_set c.args.self.now.seen.items c.args.at c.was_seen-seen.result false l ∙ put_as (table c.args.self.now.seen.items false) c.args.at _ _ made in
    let all : c.is_all_seen.result ≡ all_seen (table c.args.self.now.description.items 0) (put (table c.args.self.now.seen.items false) c.args.at (cond (eqb c.args.mark c.args.self.now.generation) true (get_or c.args.self.now.seen.items c.args.at false))) =
    c.is_all_seen.ensures
    ∙ ap (λ (xs : List ℕ). all_seen (table xs 0) (table c.deref-2.result.now false)) c.deref.ensures.value
    ∙ ap (λ (xs : List Bool). all_seen (table c.args.self.now.description.items 0) (table xs false)) c.deref-2.ensures.value
    ∙ ap (all_seen (table c.args.self.now.description.items 0)) seen in
    let stage = c.stage_of_marks-self.ensures ∙ ap (λ (b : Bool). cond {A = Stage} b Checking Listing) all in
    λ d. record (caller_of c.args.self.now) { stage = stage d; seen = seen d; readings = c.forget.ensures.forgotten d }
