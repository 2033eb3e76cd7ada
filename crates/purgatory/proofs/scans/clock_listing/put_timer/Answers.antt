use Rattle.std.proofs.Common.{arith}
use Rattle.purgatory.proofs.scans.Timers.{put_else, put_ids, put_moment, put_or_not, put_timed, reach_is}
use Rattle.purgatory.proofs.scans.clock_listing.put_timer.Goals as goal

pub insert-requires-clause-near : goal.insert-requires-clause-near
insert-requires-clause-near c =
    let sum = c.saturating_add-reach.ensures in
    let least = c.min.ensures in
    let now = c.now.ensures in
    λ l. omega (arith, sum, least, now)

pub returns-clause-moment : goal.returns-clause-moment
returns-clause-moment c =
    let put = put_or_not c.insert.result c.args.wheels.now c.insert.new.self c.args.pass c.min.result c.insert.ensures.listed c.insert.ensures.entry c.insert.ensures.none in
    put_moment c.args.wheels.now c.insert.new.self c.args.pass c.args.deadline c.min.result put

pub returns-clause-ids : goal.returns-clause-ids
returns-clause-ids c =
    let put = put_or_not c.insert.result c.args.wheels.now c.insert.new.self c.args.pass c.min.result c.insert.ensures.listed c.insert.ensures.entry c.insert.ensures.none in
    put_ids c.args.wheels.now c.insert.new.self c.args.pass c.args.deadline c.min.result put

pub returns-clause-timer : goal.returns-clause-timer
returns-clause-timer c =
    let put = put_or_not c.insert.result c.args.wheels.now c.insert.new.self c.args.pass c.min.result c.insert.ensures.listed c.insert.ensures.entry c.insert.ensures.none in
    let sum = c.saturating_add-reach.ensures in
    let now = c.now.ensures in
    let few = c.ranges.deadline in
    let reach = reach_is c.args.wheels.now.moment c.args.deadline c.saturating_add-reach.result c.min.result (omega (arith, few)) (omega (arith, sum, now)) c.min.ensures in
    put_timed c.args.wheels.now c.insert.new.self c.args.pass c.args.deadline c.min.result put c.requires reach

pub returns-clause-others : goal.returns-clause-others
returns-clause-others c =
    let put = put_or_not c.insert.result c.args.wheels.now c.insert.new.self c.args.pass c.min.result c.insert.ensures.listed c.insert.ensures.entry c.insert.ensures.none in
    put_else c.args.wheels.now c.insert.new.self c.args.pass c.args.deadline c.min.result put
