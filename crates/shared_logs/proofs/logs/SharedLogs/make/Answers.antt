use Rattle.std.proofs.Common.{◌∙◌, ap}
use Rattle.room_table.specs.Seats.{SourceView, source_now}
use Rattle.shared_logs.specs.Locked.{shared_view}
use Rattle.shared_logs.specs.Making.{fresh_log_passes}
use Rattle.shared_logs.proofs.NewLogs.{followers_made, made_dealt, seats_count, shared_made, sources_dealt}
use Rattle.shared_logs.proofs.logs.SharedLogs.make.Goals as goal

pub new_locks-requires-clause-sources : goal.new_locks-requires-clause-sources
new_locks-requires-clause-sources c =
    let room = c.in_ok-room.field-0 in
    let e = c.in_ok-room.ensures in
    (room.room.table, (sources_dealt room.room c.args.followers.now c.args.passes e.shape room.sources c.pop.new.self c.in-Some.last e.sources c.in-Some.ensures.items).0)

pub new_locks-requires-clause-stored : goal.new_locks-requires-clause-stored
new_locks-requires-clause-stored c =
    let room = c.in_ok-room.field-0 in
    let e = c.in_ok-room.ensures in
    ap (λ (source : SourceView). (source_now source).stored) (sources_dealt room.room c.args.followers.now c.args.passes e.shape room.sources c.pop.new.self c.in-Some.last e.sources c.in-Some.ensures.items).1

pub log_passes-requires : goal.log_passes-requires
log_passes-requires c =
    let room = c.in_ok-room.field-0 in
    let e = c.in_ok-room.ensures in
    let first = (sources_dealt room.room c.args.followers.now c.args.passes e.shape room.sources c.pop.new.self c.in-Some.last e.sources c.in-Some.ensures.items).0 in
    let parts = c.in_ok-parts.field-0.parts.items in
    let clock = c.in_ok-parts.field-0.clock in (
      shared_view room.room parts clock,
      made_dealt room.room c.args.followers.now c.args.passes e.shape room.sources c.pop.new.self c.in-Some.last e.sources c.in-Some.ensures.items
          parts clock c.in_ok-parts.ensures.count (c.in_ok-parts.ensures.locks room.room.table first) c.in_ok-parts.ensures.clock.0 c.in_ok-parts.ensures.clock.1
          room.passes c.in_ok-parts.field-0.rows c.in_ok-parts.field-0.clocks e.passes c.in_ok-parts.ensures.rows.0 c.in_ok-parts.ensures.rows.1 c.in_ok-parts.ensures.clocks.0 c.in_ok-parts.ensures.clocks.1,
    )

pub invariant_of-logs : goal.invariant_of-logs
invariant_of-logs c =
    let room = c.in_ok-room.field-0 in
    let e = c.in_ok-room.ensures in
    let first = (sources_dealt room.room c.args.followers.now c.args.passes e.shape room.sources c.pop.new.self c.in-Some.last e.sources c.in-Some.ensures.items).0 in
    shared_made room.room c.args.followers.now c.args.passes e.shape room.sources c.pop.new.self c.in-Some.last e.sources c.in-Some.ensures.items
    c.in_ok-parts.field-0.parts.items c.in_ok-parts.field-0.clock c.in_ok-parts.ensures.count (c.in_ok-parts.ensures.locks room.room.table first) c.in_ok-parts.ensures.clock.0 c.in_ok-parts.ensures.clock.1

pub returns-clause-followers : goal.returns-clause-followers
returns-clause-followers c =
    let room = c.in_ok-room.field-0 in
    let e = c.in_ok-room.ensures in
    let first = (sources_dealt room.room c.args.followers.now c.args.passes e.shape room.sources c.pop.new.self c.in-Some.last e.sources c.in-Some.ensures.items).0 in
    followers_made room.room c.args.followers.now c.args.passes e.shape room.sources c.pop.new.self c.in-Some.last e.sources c.in-Some.ensures.items
    c.in_ok-parts.field-0.parts.items c.in_ok-parts.field-0.clock c.in_ok-parts.ensures.count (c.in_ok-parts.ensures.locks room.room.table first) c.in_ok-parts.ensures.clock.0 c.in_ok-parts.ensures.clock.1

pub returns-clause-passes : goal.returns-clause-passes
returns-clause-passes c =
    let room = c.in_ok-room.field-0 in
    let e = c.in_ok-room.ensures in
    let first = (sources_dealt room.room c.args.followers.now c.args.passes e.shape room.sources c.pop.new.self c.in-Some.last e.sources c.in-Some.ensures.items).0 in
    let parts = c.in_ok-parts.field-0.parts.items in
    let clock = c.in_ok-parts.field-0.clock in
    let shared = shared_view room.room parts clock in
    let named = c.in_ok-parts.ensures.locks room.room.table first in
    c.in_ok-passes.ensures shared
    (made_dealt room.room c.args.followers.now c.args.passes e.shape room.sources c.pop.new.self c.in-Some.last e.sources c.in-Some.ensures.items
    parts clock c.in_ok-parts.ensures.count named c.in_ok-parts.ensures.clock.0 c.in_ok-parts.ensures.clock.1
    room.passes c.in_ok-parts.field-0.rows c.in_ok-parts.field-0.clocks e.passes c.in_ok-parts.ensures.rows.0 c.in_ok-parts.ensures.rows.1 c.in_ok-parts.ensures.clocks.0 c.in_ok-parts.ensures.clocks.1)
    ∙ ap (fresh_log_passes shared)
    (seats_count room.room c.args.followers.now c.args.passes e.shape room.sources c.pop.new.self c.in-Some.last e.sources c.in-Some.ensures.items
    parts clock c.in_ok-parts.ensures.count named c.in_ok-parts.ensures.clock.0 c.in_ok-parts.ensures.clock.1
    room.passes c.in_ok-parts.field-0.rows c.in_ok-parts.field-0.clocks e.passes c.in_ok-parts.ensures.rows.0 c.in_ok-parts.ensures.rows.1 c.in_ok-parts.ensures.clocks.0 c.in_ok-parts.ensures.clocks.1)
