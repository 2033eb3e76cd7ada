use Rattle.std.proofs.Common.{rules, ◌≡◌, Some}
use Rattle.two_warehouses.specs.Ready.{IsReady}
use Rattle.two_warehouses.proofs.Fresh.{popped}
use Rattle.two_warehouses.proofs.three_passes.Goals as goal

pub returns : goal.returns
returns c =
    let P = IsReady c.args.room.now in
    let got : c.pop.result ≡ Some c.in_ok-last.last = search rules in
    let next : c.pop-2.result ≡ Some c.in_ok-other.other = search rules in
    let end : c.pop-3.result ≡ Some c.in_ok-one.one = search rules in
    let last = popped P c.args.passes c.pop.new.self c.pop.result c.in_ok-last.last c.pop.ensures.items got c.requires in
    let other = popped P c.pop.new.self c.pop-2.new.self c.pop-2.result c.in_ok-other.other c.pop-2.ensures.items next last.0 in
    let one = popped P c.pop-2.new.self c.pop-3.new.self c.pop-3.result c.in_ok-one.one c.pop-3.ensures.items end other.0 in
    (one.1, other.1, last.1)
