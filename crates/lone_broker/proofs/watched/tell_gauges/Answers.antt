use Rattle.std.proofs.Common.{subst}
use Rattle.lone_broker.proofs.Telling.{WarnsOf, part_warned, warned_then}
use Rattle.lone_broker.proofs.watched.tell_gauges.Goals as goal

pub returns-clause-warned : goal.returns-clause-warned
returns-clause-warned c =
    warned_then c.args.waiters.now c.tell_gauge-2.new.waiters c.tell_gauge-3.new.waiters (warned_then c.args.waiters.now c.tell_gauge.new.waiters c.tell_gauge-2.new.waiters c.tell_gauge.ensures.warned c.tell_gauge-2.ensures.warned) c.tell_gauge-3.ensures.warned

pub returns-clause-told : goal.returns-clause-told
returns-clause-told c =
    let was = c.args.was.now in
    let now = c.args.now.now in
    let a = c.args.waiters.now in
    let b = c.tell_gauge.new.waiters in
    let d = c.tell_gauge-2.new.waiters in
    let e = c.tell_gauge-3.new.waiters in
    part_warned c.args.part was now a b d e c.tell_gauge.ensures.warned c.tell_gauge-2.ensures.warned c.tell_gauge-3.ensures.warned
    (subst (WarnsOf was.high now.high a b) c.high_gauge.ensures c.tell_gauge.ensures.told)
    (subst (WarnsOf was.visible now.visible b d) c.visible_gauge.ensures c.tell_gauge-2.ensures.told)
    (subst (WarnsOf was.bytes now.bytes d e) c.end_gauge.ensures c.tell_gauge-3.ensures.told)
