use Rattle.std.proofs.Common.{◌∙◌, List, [], ◌∷◌, ◌++◌, ap, append_assoc, arith, length, subst, sym}
use Rattle.std.specs.Vec.Iter.{into_iter_items}
use Rattle.outside.specs.shared.clock.ClockViews.{PassView}
use Rattle.outside.specs.shared.clock.Keys.{AreKeysOf, IsKeyOf}
use Rattle.outside.proofs.shared.clock.KeysMade.{keys_push}
use Rattle.outside.proofs.shared.clock.making.keys_of.Goals as goal

pub loop-pass-preserved : goal.loop-pass-preserved
loop-pass-preserved g c =
    let i = c.loop-pass.invariant in
    let pass = c.in-Some.pass in
    let taken = ap (λ (l : List PassView). length l) c.in-Some.ensures.steps.0 in
    let gone = c.in-Some.ensures.steps.1 in
    let len = i.len in
    let key : IsKeyOf pass c.pass.inside.key = record { number = c.pass.inside.number; told = c.pass.inside.told; pass_is = sym c.pass.view_is; keeps = c.pass.invariant } in
    record {
      len = omega (arith, len, gone, taken);
      done = i.done ++ pass ∷ [];
      all = i.all ∙ ap (λ (l : List PassView). i.done ++ l) c.in-Some.ensures.steps.0 ∙ sym (append_assoc i.done (pass ∷ []) (into_iter_items c.next.new.self));
      keys_are = subst (AreKeysOf (i.done ++ pass ∷ [])) (sym c.in_ok-push.ensures.ok) (keys_push i.done c.loop-pass.keys pass c.pass.inside.key i.keys_are key);
    }
