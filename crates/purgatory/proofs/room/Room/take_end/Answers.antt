use Rattle.std.proofs.Common.{◌∙◌, sym}
use Rattle.purgatory.proofs.Goes.{keeps_far}
use Rattle.purgatory.proofs.Words.{open_stage, stays_open}
use Rattle.purgatory.proofs.room.Room.take_end.Goals as goal

pub loop-preserved : goal.loop-preserved
loop-preserved g c =
    let i = c.loop.invariant in
    let found = c.in_default.ensures in
    record {
      keeps = keeps_far c.args.owner.now c.loop.owner c.poll.new.self i.keeps (stays_open c.loop.owner c.poll.new.self found);
      busy = λ idle. i.busy (sym (open_stage c.loop.owner c.poll.new.self found) ∙ idle);
    }
