use Rattle.std.proofs.Common.{Some, subst, sym}
use Rattle.std.specs.Prelude.{All}
use Rattle.std.proofs.lemmas.List.Elements.{All-pop, All-push}
use Rattle.tests_of_libraries.specs.Crews.{IsCrewOf}
use Rattle.tests_of_libraries.proofs.rooms.many.halved.Goals as goal

pub halves-requires : goal.halves-requires
halves-requires c = (All-pop (IsCrewOf c.args.room.now) c.loop-crew.crews.items c.pop.new.self.items (Some c.in-Some.crew) c.in-Some.ensures.items c.loop-crew.invariant.left).1

pub loop-crew-preserved : goal.loop-crew-preserved
loop-crew-preserved c =
    let C = IsCrewOf c.args.room.now in
    let i = c.loop-crew.invariant in
    let both = c.in_ok-one.ensures in
    let first = subst (All C) (sym c.in_ok-push.ensures.items) (All-push C c.loop-crew.more.items c.in_ok-one.one i.more both.0) in
    record {
      left = (All-pop C c.loop-crew.crews.items c.pop.new.self.items (Some c.in-Some.crew) c.in-Some.ensures.items i.left).0;
      more = subst (All C) (sym c.in_ok-push-2.ensures.items) (All-push C c.push.new.self.items c.in_ok-one.other first both.1);
    }
