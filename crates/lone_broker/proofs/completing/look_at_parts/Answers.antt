use Rattle.std.proofs.Common.{◌<◌, length, arith, ◌∙◌}
use Rattle.lone_broker.proofs.Dues.{look_more}
use Rattle.lone_broker.proofs.completing.look_at_parts.Goals as goal

pub loop-became-preserved : goal.loop-became-preserved
loop-became-preserved c =
    let lt : c.loop-became.became-index < length c.args.accepted.now = omega (arith, c.loop-became-test.true) in
    let both = look_more c.args.who.by c.args.who.seq c.args.accepted.now c.loop-became.became-index _ c.args.parts.now c.loop-became.parts c.look_at.new.parts c.args.finish.now c.loop-became.finish c.look_at.new.finish lt
    c.loop-became.invariant.parts c.loop-became.invariant.points c.in_ok-look_at.ensures.parts c.in_ok-look_at.ensures.points in
    record { size = c.look_at.auto.parts ∙ c.loop-became.invariant.size; parts = both.0; points = both.1 }
