use Rattle.std.proofs.Common.{◌<◌, ◌≤◌, length, get_or, arith}
use Rattle.std.proofs.lemmas.List.{get_or_default}
use Rattle.lone_broker.proofs.Risen.{all_through, shrunk_more}
use Rattle.lone_broker.proofs.shrinking.shrink_parts.Goals as goal

pub loop-at-preserved : goal.loop-at-preserved
loop-at-preserved c =
    let i = c.loop-at.at in
    let before = c.args.parts.now in
    let parts = c.loop-at.parts in
    let within : i < length parts = omega (arith, c.loop-at-test.true, c.loop-at.auto.parts) in
    let there : i < length before = omega (arith, c.loop-at-test.true) in
    shrunk_more c.args.t before parts i (get_or parts i c.index-parts-at.result) c.shrink_all.new.self there c.loop-at.invariant (get_or_default parts i c.index-parts-at.result _ within) c.in_ok-shrink_all.ensures.all

pub returns : goal.returns
returns c =
    let all : length c.args.parts.now ≤ c.loop-at.at = omega (arith, c.loop-at-test.false) in
    all_through c.args.t c.args.parts.now c.loop-at.parts c.loop-at.at all c.loop-at.invariant
