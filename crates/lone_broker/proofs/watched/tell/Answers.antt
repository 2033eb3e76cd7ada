use Rattle.std.proofs.Common.{◌<◌, ◌≤◌, length, arith}
use Rattle.lone_broker.proofs.Telling.{told_all, told_nothing, told_turn, warned_self, warned_then}
use Rattle.lone_broker.proofs.watched.tell.Goals as goal

pub loop-point-init : goal.loop-point-init
loop-point-init c = record {
  told = told_nothing c.args.parts.now c.args.told.now;
  warned = warned_self c.args.waiters.now;
  watched = λ parked h. h;
}

pub loop-point-preserved : goal.loop-point-preserved
loop-point-preserved c =
    let lt : c.loop-point.point-index < length c.args.points.now = omega (arith, c.loop-point-test.true) in
    record {
      told = told_turn c.args.parts.now c.args.points.now c.loop-point.point-index _ c.args.told.now c.loop-point.told c.tell_at.new.told lt c.loop-point.invariant.told c.tell_at.ensures.told;
      warned = warned_then c.args.waiters.now c.loop-point.waiters c.tell_at.new.waiters c.loop-point.invariant.warned c.tell_at.ensures.warned;
      watched = λ parked h. c.tell_at.ensures.watched parked (c.loop-point.invariant.watched parked h);
    }

pub returns-clause-told : goal.returns-clause-told
returns-clause-told c =
    let all : length c.args.points.now ≤ c.loop-point.point-index = omega (arith, c.loop-point-test.false) in
    told_all c.args.parts.now c.args.points.now c.loop-point.point-index c.args.told.now c.loop-point.told all c.loop-point.invariant.told
