use Rattle.std.proofs.Common.{◌≡◌, ◌∙◌, ◌++◌, List, [], ◌∷◌, Some, ap, arith, length, map, subst, sym}
use Rattle.std.specs.Vec.Iter.{into_iter_items}
use Rattle.std.proofs.lemmas.List.Elements.{All-pop}
use Rattle.room_table.specs.Seats.{CallerView}
use Rattle.purgatory.specs.Making.{AreFrom, IsFreshCaller}
use Rattle.purgatory.specs.Rooms.{LockView, PassView, with_locks}
use Rattle.purgatory.proofs.Made.{all_taken}
use Rattle.purgatory.proofs.Rings.{popped_len}
use Rattle.purgatory.proofs.making.room_passes.Goals as goal

pub loop-seat-preserved : goal.loop-seat-preserved
loop-seat-preserved c =
    let i = c.loop-seat.invariant in
    let seat = c.in-Some.seat in
    let left = into_iter_items c.loop-seat.seat-iterator in
    let next = into_iter_items c.next.new.self in
    let steps : left ≡ seat ∷ next = c.in-Some.ensures.steps.0 in
    let shorter = ap (λ (l : List CallerView). length l) steps in
    let taken = popped_len c.loop-seat.keys c.pop.new.self c.in-Some-pop.keys c.in-Some-pop.ensures.items in
    let more = c.in_ok-push.ensures.ok in
    let longer = popped_len c.push.new.self c.loop-seat.passes _ more in
    let keys = i.keys in
    let len = i.len in
    let gone = c.in-Some.ensures.steps.1 in
    record {
      keys = omega (arith, keys, shorter, taken);
      left = subst (λ n. AreFrom (IsFreshCaller c.args.shape) n next) (sym longer) (subst (AreFrom (IsFreshCaller c.args.shape) (length c.loop-seat.passes)) steps i.left).1;
      len = omega (arith, len, gone, shorter);
      made = λ locks h.
          let m = i.made locks h in
          let P : List LockView → Type 0 = λ ring. ring ≡ locks in
          let rings = All-pop P c.loop-seat.keys c.pop.new.self (Some c.in-Some-pop.keys) c.in-Some-pop.ensures.items m.0 in
          let same : with_locks c.in-Some-pop.keys c.in_ok-owner.owner ≡ with_locks locks seat = λ j. with_locks (rings.1 j) (c.in_ok-owner.ensures j) in (
            rings.0,
            ap (λ (l : List PassView). l ++ map (with_locks locks) next) (more ∙ ap (λ (v : PassView). c.loop-seat.passes ++ v ∷ []) same)
                ∙ all_taken c.loop-seat.passes (map (with_locks locks) left) _ (with_locks locks seat) (map (with_locks locks) next) m.1 (ap (map (with_locks locks)) steps),
          );
    }
