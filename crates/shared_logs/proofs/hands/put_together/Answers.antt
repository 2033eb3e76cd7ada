use Rattle.std.proofs.Common.{◌∙◌, ◌++◌, List, ap, arith, length, refl}
use Rattle.std.proofs.lemmas.List.{length_push}
use Rattle.purgatory.specs.Rooms.{PassView}
use Rattle.shared_logs.specs.declared.hands.Hand.{Hand}
use Rattle.shared_logs.specs.Apart.{gathered}
use Rattle.shared_logs.proofs.Apart.{as_many, last_joined, together_step}
use Rattle.shared_logs.proofs.hands.put_together.Goals as goal

pub unreachable-requires : goal.unreachable-requires
unreachable-requires c =
    let same = as_many c.loop-room.seats c.loop-room.hands c.loop-room.invariant.joined in
    let none = ap (λ (l : List Hand). length l) (c.in_default-pop.ensures.none.0 refl) in
    let some = ap (λ (l : List PassView). length l) c.in-Some.ensures.items ∙ length_push c.pop.new.self c.in-Some.room in
    omega (arith, same, none, some)

pub invariant_of-push : goal.invariant_of-push
invariant_of-push c =
    (last_joined c.loop-room.seats c.pop.new.self c.in-Some.room c.loop-room.hands c.pop-in-Some.new.self c.in-Some-pop.hand c.in-Some.ensures.items c.in-Some-pop.ensures.items
    c.loop-room.invariant.joined).1

pub loop-room-preserved : goal.loop-room-preserved
loop-room-preserved c = record {
  all = together_step c.loop-room.seats c.pop.new.self c.in-Some.room c.loop-room.hands c.pop-in-Some.new.self c.in-Some-pop.hand c.in-Some.ensures.items c.in-Some-pop.ensures.items
      c.loop-room.invariant.joined c.loop-room.passes c.push.new.self _ (c.args.passes ++ gathered c.args.seats c.args.hands) c.in_ok-push.ensures.ok refl c.loop-room.invariant.all;
  joined = (last_joined c.loop-room.seats c.pop.new.self c.in-Some.room c.loop-room.hands c.pop-in-Some.new.self c.in-Some-pop.hand c.in-Some.ensures.items
      c.in-Some-pop.ensures.items c.loop-room.invariant.joined).0;
}
