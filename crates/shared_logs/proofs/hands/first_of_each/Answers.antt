use Rattle.std.proofs.Common.{◌≡◌, ◌∙◌, ◌<◌, List, [], ◌∷◌, ◌++◌, ap, append_assoc, arith, length, refl, subst, sym}
use Rattle.std.specs.Prelude.{All}
use Rattle.std.specs.Vec.Iter.{into_iter_items}
use Rattle.std.proofs.lemmas.List.Elements.{All-head, All-tail}
use Rattle.shared_logs.specs.declared.hands.Hand.{Hand}
use Rattle.shared_logs.proofs.Apart.{first_removed, rests_step}
use Rattle.shared_logs.proofs.hands.first_of_each.Goals as goal

pub loop-hand-preserved : goal.loop-hand-preserved
loop-hand-preserved c =
    let i = c.loop-hand.invariant in
    let hand = c.in-Some.hand in
    let left = into_iter_items c.loop-hand.hand-iterator in
    let next = into_iter_items c.next.new.self in
    let steps : left ≡ hand ∷ next = c.in-Some.ensures.steps.0 in
    let shorter = ap (λ (l : List Hand). length l) steps in
    let gone = c.in-Some.ensures.steps.1 in
    let len = i.len in
    let P : Hand → Type 0 = λ h. 0 < length h.parts.items in
    let some = subst (All P) steps i.some in
    let done = i.apart.0 in
    record {
      len = omega (arith, len, gone, shorter);
      some = All-tail P hand next some;
      apart = (
        done ++ hand ∷ [],
        rests_step done c.loop-hand.firsts c.push.new.self c.loop-hand.rest c.push-in-loop-hand.new.self hand c.remove.result _ c.in_ok-push.ensures.ok c.in_ok-push-2.ensures.ok i.apart.1
            (record { number = refl; parts = first_removed hand.parts.items c.remove.new.self.items c.remove.result (All-head P hand next some) c.remove.ensures.value c.remove.ensures.by_index.2; clock = refl }),
        append_assoc done (hand ∷ []) next ∙ ap (λ (l : List Hand). done ++ l) (sym steps) ∙ i.apart.2,
      );
    }
