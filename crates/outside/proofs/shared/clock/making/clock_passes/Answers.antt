use Rattle.std.proofs.Common.{◌≡◌, ◌∙◌, ℕ, ◌+◌, List, [], ◌∷◌, ◌++◌, ap, arith, length, subst, sym}
use Rattle.std.specs.Vec.Iter.{into_iter_items}
use Rattle.std.proofs.lemmas.List.{length_push}
use Rattle.std.proofs.lemmas.List.FromFn.{map-range_with_len_more}
use Rattle.turn_lock.specs.declared.pass.TurnPass.{TurnPass}
use Rattle.outside.specs.declared.shared.clock.told_moment.ToldMoment.{ToldMoment}
use Rattle.outside.specs.shared.clock.ClockViews.{PassView}
use Rattle.outside.specs.shared.clock.Desk.{Desk}
use Rattle.outside.specs.shared.clock.Fresh.{fresh_pass, fresh_passes}
use Rattle.outside.specs.shared.clock.Keys.{AreFreshFrom, IsClockPass, pass_view}
use Rattle.outside.proofs.shared.clock.KeysMade.{new_pass, new_view}
use Rattle.outside.proofs.shared.clock.making.clock_passes.Goals as goal

pub overflow_cast-number : goal.overflow_cast-number
overflow_cast-number g c =
    let count = c.loop-key.invariant.count in
    let taken = ap (λ (l : List (TurnPass (Desk g.row.C.Denot) ToldMoment)). length l) c.in-Some.ensures.steps.0 in
    omega (arith, count, taken, c.len-number.ensures, c.requires.few)

pub invariant_of-push : goal.invariant_of-push
invariant_of-push g c =
    let id = c.requires.keys.0 in
    let rest = (c.loop-key.invariant.each id c.requires.keys.1).0 in
    let first = subst (AreFreshFrom id (length c.loop-key.passes)) c.in-Some.ensures.steps.0 rest in
    subst (λ (n : ℕ). IsClockPass n c.in-Some.key 0) (sym c.len-number.ensures) (new_pass (length c.loop-key.passes) c.in-Some.key first.1)

pub loop-key-preserved : goal.loop-key-preserved
loop-key-preserved g c =
    let Key : Type 0 = TurnPass (Desk g.row.C.Denot) ToldMoment in
    let i = c.loop-key.invariant in
    let passes = c.loop-key.passes in
    let taken = ap (λ (l : List Key). length l) c.in-Some.ensures.steps.0 in
    let gone = c.in-Some.ensures.steps.1 in
    let more = c.in_ok-push.ensures.ok in
    let longer = ap (λ (l : List PassView). length l) more ∙ length_push passes _ in
    let len = i.len in
    let count = i.count in
    record {
      len = omega (arith, len, gone, taken);
      count = omega (arith, count, longer, taken);
      each = λ id start.
          let now = i.each id start in
          let n = length passes in
          let first = subst (AreFreshFrom id n) c.in-Some.ensures.steps.0 now.0 in
          let view = new_view id n c.in-Some.key first.0 first.1 in
          let front : passes ++ fresh_pass id n ∷ [] ≡ fresh_passes id (n + 1) =
          ap (λ (l : List PassView). l ++ fresh_pass id n ∷ []) now.1 ∙ sym (map-range_with_len_more (fresh_pass id) 0 n n (omega arith)) in (
            subst (λ (k : ℕ). AreFreshFrom id k (into_iter_items c.next.new.self)) (sym longer) first.2,
            more ∙ ap (λ (p : PassView). passes ++ p ∷ []) (ap (λ (k : ℕ). pass_view k c.in-Some.key 0) c.len-number.ensures ∙ view) ∙ front ∙ ap (fresh_passes id) (sym longer),
          );
    }
