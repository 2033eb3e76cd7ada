use Rattle.std.proofs.Common.{◌≡◌, List, ◌∷◌, ap, arith, length, subst, sym}
use Rattle.std.specs.Prelude.{All}
use Rattle.std.specs.Vec.Iter.{into_iter_items}
use Rattle.std.proofs.lemmas.List.Elements.{All-push}
use Rattle.tests_of_libraries.specs.Crews.{IsNewPass}
use Rattle.purgatory.specs.Rooms.{IsOfRoom, PassView}
use Rattle.tests_of_libraries.proofs.Crews.{first_of, rest_of}
use Rattle.tests_of_libraries.proofs.rooms.crew.hands.Goals as goal

pub loop-pass-preserved : goal.loop-pass-preserved
loop-pass-preserved c =
    let room = c.args.room.now in
    let i = c.loop-pass.invariant in
    let pass = c.in-Some.pass in
    let next = into_iter_items c.next.new.self in
    let steps : into_iter_items c.loop-pass.pass-iterator ≡ pass ∷ next = c.in-Some.ensures.steps.0 in
    let left = subst (All (IsNewPass room)) steps i.left in
    let ready = first_of (IsNewPass room) pass next left in
    let shorter = ap (λ (l : List PassView). length l) steps in
    let gone = c.in-Some.ensures.steps.1 in
    let len = i.len in
    record {
      left = rest_of (IsNewPass room) pass next left;
      len = omega (arith, len, gone, shorter);
      made = subst (All (IsOfRoom room)) (sym c.in_ok-push.ensures.items) (All-push (IsOfRoom room) c.loop-pass.hands.items pass i.made ready.made);
    }
