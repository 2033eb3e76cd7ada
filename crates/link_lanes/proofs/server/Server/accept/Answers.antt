use Rattle.std.proofs.Common.{[]}
use Rattle.link_lanes.specs.Accepted.{numbers_in}
use Rattle.link_lanes.specs.Halls.{ServerView}
use Rattle.link_lanes.specs.Seen.{seen_by}
use Rattle.link_lanes.proofs.Served.{accepted_on, found, served_from}
use Rattle.link_lanes.proofs.server.Server.accept.Goals as goal

pub accept-requires : goal.accept-requires
accept-requires g c =
    let r = c.requires.ready in
    let is = found (seen_by g.P.Link.Link.taken g.P.Link.Link.left g.P.Link.Link.written g.P.Link.Link.faults g.P.Link.Link.is_shut) c.args.hall.now (record { broker = c.hall.inside.broker; clock = c.hall.inside.clock; port = c.hall.inside.port; queue = c.hall.inside.queue }) r.0 [] r.1 r.2 c.args.self.now (record { pass = c.self.inside.pass; seat = c.self.inside.seat; key = c.self.inside.key }) c.hall.view_is c.self.view_is r.3 in
    record { pass = is.key }

pub returns-clause-served : goal.returns-clause-served
returns-clause-served g c =
    let old : ServerView g.row.P-Link.Denot = record { pass = c.self.inside.pass; seat = c.self.inside.seat; key = c.self.inside.key } in
    let new : ServerView g.row.P-Link.Denot = record { pass = c.self.inside.pass; seat = c.self.inside.seat; key = c.accept.new.pass } in
    served_from (seen_by g.P.Link.Link.taken g.P.Link.Link.left g.P.Link.Link.written g.P.Link.Link.faults g.P.Link.Link.is_shut) c.args.hall.now [] (numbers_in c.accept.result) [] [] c.args.self.now old new c.self.view_is
    (accepted_on (seen_by g.P.Link.Link.taken g.P.Link.Link.left g.P.Link.Link.written g.P.Link.Link.faults g.P.Link.Link.is_shut) c.args.hall.now c.accept.result c.self.inside.key.number old c.accept.new.pass c.accept.ensures.entered)
