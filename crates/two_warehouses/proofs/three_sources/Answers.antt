use Rattle.std.proofs.Common.{rules, ◌≡◌, Some}
use Rattle.two_warehouses.proofs.Fresh.{popped}
use Rattle.purgatory.specs.Rooms.{IsSourceOf}
use Rattle.two_warehouses.proofs.three_sources.Goals as goal

pub returns : goal.returns
returns c =
    let S = IsSourceOf c.args.room.now in
    let got : c.pop.result ≡ Some c.in_ok-clock.clock = search rules in
    let next : c.pop-2.result ≡ Some c.in_ok-second.second = search rules in
    let last : c.pop-3.result ≡ Some c.in_ok-first.first = search rules in
    let clock = popped S c.args.sources c.pop.new.self c.pop.result c.in_ok-clock.clock c.pop.ensures.items got c.requires in
    let second = popped S c.pop.new.self c.pop-2.new.self c.pop-2.result c.in_ok-second.second c.pop-2.ensures.items next clock.0 in
    let first = popped S c.pop-2.new.self c.pop-3.new.self c.pop-3.result c.in_ok-first.first c.pop-3.ensures.items last second.0 in
    (first.1, second.1, clock.1)
