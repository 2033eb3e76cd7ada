use Rattle.std.proofs.Common.{rules, ◌≡◌, Some, subst, sym}
use Rattle.std.specs.Prelude.{All, IfSome}
use Rattle.std.proofs.lemmas.List.Elements.{All-pop}
use Rattle.purgatory.proofs.Laws.{passes_of_room, sources_of_room}
use Rattle.bench_parts.specs.Seats.{IsFreshPass, IsFreshSource}
use Rattle.bench_parts.proofs.room_seat.room_seats.Goals as goal

pub loop-init : goal.loop-init
loop-init c =
    let room = c.args.room.now in
    let all = subst (All (IsFreshSource room)) (sym c.requires.sources) (sources_of_room room) in
    record {
      sources = (All-pop (IsFreshSource room) c.args.sources c.pop-clock.new.self c.pop-clock.result c.pop-clock.ensures.items all).0;
      passes = subst (All (IsFreshPass room)) (sym c.requires.passes) (passes_of_room room);
    }

pub new-requires-clause-source : goal.new-requires-clause-source
new-requires-clause-source c =
    let S = IsFreshSource c.args.room.now in
    let got : c.pop.result ≡ Some c.in_ok-source.source = search rules in
    let both = All-pop S c.loop.sources c.pop.new.self c.pop.result c.pop.ensures.items c.loop.invariant.sources in
    subst (λ o. IfSome o S) got both.1

pub new-requires-clause-pass : goal.new-requires-clause-pass
new-requires-clause-pass c =
    let P = IsFreshPass c.args.room.now in
    let got : c.pop-in-loop.result ≡ Some c.in_ok-pass.pass = search rules in
    let both = All-pop P c.loop.passes c.pop-in-loop.new.self c.pop-in-loop.result c.pop-in-loop.ensures.items c.loop.invariant.passes in
    subst (λ o. IfSome o P) got both.1

pub loop-preserved : goal.loop-preserved
loop-preserved c =
    let room = c.args.room.now in
    record {
      sources = (All-pop (IsFreshSource room) c.loop.sources c.pop.new.self c.pop.result c.pop.ensures.items c.loop.invariant.sources).0;
      passes = (All-pop (IsFreshPass room) c.loop.passes c.pop-in-loop.new.self c.pop-in-loop.result c.pop-in-loop.ensures.items c.loop.invariant.passes).0;
    }
