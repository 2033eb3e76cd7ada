use Rattle.std.proofs.Common.{refl}
use Rattle.link_lanes.specs.Halls.{LaneView}
use Rattle.link_lanes.specs.Seen.{seen_by}
use Rattle.link_lanes.proofs.Gone.{none_gone_taking, ready_taking}
use Rattle.link_lanes.proofs.lane.Lane.step.Goals as goal

pub serve-requires-clause-ready : goal.serve-requires-clause-ready
serve-requires-clause-ready g c = ready_taking (seen_by g.P.Link.Link.taken g.P.Link.Link.left g.P.Link.Link.written g.P.Link.Link.faults g.P.Link.Link.is_shut) c.args.hall.now c.in-Some.item.number c.args.self.now (record { server = c.self.inside.server; hand = c.self.inside.hand; is_stopped = c.self.inside.is_stopped }) c.requires.ready c.self.view_is

pub returns-in-Some-clause-gone : goal.returns-in-Some-clause-gone
returns-in-Some-clause-gone g c =
    let old : LaneView g.row.P-Link.Denot = record { server = c.self.inside.server; hand = c.self.inside.hand; is_stopped = c.self.inside.is_stopped } in
    let mid : LaneView g.row.P-Link.Denot = record { server = c.self.inside.server; hand = c.pop.new.pass; is_stopped = c.self.inside.is_stopped } in
    none_gone_taking (seen_by g.P.Link.Link.taken g.P.Link.Link.left g.P.Link.Link.written g.P.Link.Link.faults g.P.Link.Link.is_shut) c.args.hall.now c.in-Some.item c.args.self.now old mid c.serve.new.self c.serve.result c.self.view_is c.in-Some.ensures.taken refl c.serve.ensures.gone
