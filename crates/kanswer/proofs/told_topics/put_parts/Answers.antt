use Rattle.std.proofs.Common.{arith}
use Rattle.kwire.proofs.Laws.{put_item, put_all, in_range_item}
use Rattle.kanswer.specs.ToldParts.{parts_by}
use Rattle.kanswer.proofs.ToldAt.{parts_length, part_at}
use Rattle.kanswer.proofs.told_topics.put_parts.Goals as goal

pub put_part-requires-clause-in_range : goal.put_part-requires-clause-in_range
put_part-requires-clause-in_range g c =
    let tells = g.A.Answered.told c.args.answered.now in
    let told = parts_by tells c.args.parts.now c.args.accepted.now c.args.readings.now in
    let size = parts_length tells c.args.parts.now c.args.accepted.now c.args.readings.now c.requires.accepted c.requires.readings in
    let is = part_at tells c.args.parts.now c.args.accepted.now c.args.readings.now c.loop-at.at _ _ _ c.loop-at-test.true c.requires.accepted c.requires.readings c.index-parts-at.is c.index-readings-at.is in
    in_range_item (g.A.Answered.told_fields c.args.answered.now) told c.loop-at.at _ (omega (arith, size, c.loop-at-test.true)) is c.requires.in_range

pub loop-at-preserved : goal.loop-at-preserved
loop-at-preserved g c =
    let tells = g.A.Answered.told c.args.answered.now in
    let told = parts_by tells c.args.parts.now c.args.accepted.now c.args.readings.now in
    let size = parts_length tells c.args.parts.now c.args.accepted.now c.args.readings.now c.requires.accepted c.requires.readings in
    let is = part_at tells c.args.parts.now c.args.accepted.now c.args.readings.now c.loop-at.at _ _ _ c.loop-at-test.true c.requires.accepted c.requires.readings c.index-parts-at.is c.index-readings-at.is in
    put_item (g.A.Answered.told_fields c.args.answered.now) c.args.out.now c.loop-at.out c.put_part.new.out told c.loop-at.at _ (omega (arith, size, c.loop-at-test.true)) is c.loop-at.invariant c.in_ok-put_part.ensures

pub returns : goal.returns
returns g c =
    let tells = g.A.Answered.told c.args.answered.now in
    let told = parts_by tells c.args.parts.now c.args.accepted.now c.args.readings.now in
    let size = parts_length tells c.args.parts.now c.args.accepted.now c.args.readings.now c.requires.accepted c.requires.readings in
    put_all (g.A.Answered.told_fields c.args.answered.now) c.args.out.now c.loop-at.out told c.loop-at.at (omega (arith, size, c.loop-at-test.false)) c.loop-at.invariant
