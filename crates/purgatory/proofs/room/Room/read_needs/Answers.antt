use Rattle.std.proofs.Common.{◌∙◌, arith}
use Rattle.purgatory.proofs.Goes.{keeps_far}
use Rattle.purgatory.proofs.Reading.{has_read_more, reads_keep, reads_stage, taken_more}
use Rattle.purgatory.proofs.room.Room.read_needs.Goals as goal

pub loop-i-preserved : goal.loop-i-preserved
loop-i-preserved c =
    let i = c.loop-i.invariant in
    let old = c.args.owner.now in
    let now = c.loop-i.owner in
    let new = c.read.new.self in
    let step = c.read.ensures.step in
    let less = c.loop-i-test.true in
    let size = c.loop-i.auto.values in
    let room = c.requires.room in
    record {
      keeps = keeps_far old now new i.keeps (reads_keep now new _ c.read.result step);
      checking = reads_stage now new _ c.read.result step ∙ i.checking;
      read = has_read_more old now new c.args.needs.now c.loop-i.values c.loop-i.i c.read.result _ less (omega (arith, less, size, room)) i.read step;
      taken = taken_more now new c.args.needs.now c.loop-i.values c.loop-i.i c.read.result _ c.requires.distinct less (omega (arith, less, size, room)) step i.checking i.taken;
    }
