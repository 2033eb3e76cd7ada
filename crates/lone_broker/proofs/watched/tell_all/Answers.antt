use Rattle.std.proofs.Common.{◌≤◌, length, arith}
use Rattle.lone_broker.proofs.Telling.{below_all, below_more, warned_self, warned_then}
use Rattle.lone_broker.proofs.watched.tell_all.Goals as goal

pub loop-part-init : goal.loop-part-init
loop-part-init c = record {
  told = record { size = c.requires.size; each = λ part lt. absurd (omega (arith, lt)) };
  warned = warned_self c.args.waiters.now;
  watched = λ parked h. h;
}

pub loop-part-preserved : goal.loop-part-preserved
loop-part-preserved c = record {
  told = below_more c.args.parts.now c.loop-part.part c.loop-part.told c.tell_part.new.told c.loop-part.invariant.told c.tell_part.ensures.told;
  warned = warned_then c.args.waiters.now c.loop-part.waiters c.tell_part.new.waiters c.loop-part.invariant.warned c.tell_part.ensures.warned;
  watched = λ parked h. c.tell_part.ensures.watched parked (c.loop-part.invariant.watched parked h);
}

pub returns-clause-told : goal.returns-clause-told
returns-clause-told c =
    let all : length c.loop-part.told ≤ c.loop-part.part = omega (arith, c.loop-part-test.false, c.loop-part.invariant.told.size, c.requires.size) in
    below_all c.args.parts.now c.loop-part.part c.loop-part.told all c.loop-part.invariant.told
