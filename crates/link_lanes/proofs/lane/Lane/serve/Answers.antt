use Rattle.std.proofs.Common.{[], ◌∷◌, refl}
use Rattle.link_lanes.specs.Halls.{LaneView}
use Rattle.link_lanes.specs.Seen.{seen_by}
use Rattle.link_lanes.proofs.Gone.{gone_from, gone_serving}
use Rattle.link_lanes.proofs.lane.Lane.serve.Goals as goal

pub returns-clause-gone : goal.returns-clause-gone
returns-clause-gone g c =
    let old : LaneView g.row.P-Link.Denot = record { server = c.self.inside.server; hand = c.self.inside.hand; is_stopped = c.self.inside.is_stopped } in
    let new : LaneView g.row.P-Link.Denot = record { server = c.serve.new.self; hand = c.self.inside.hand; is_stopped = c.self.inside.is_stopped } in
    gone_from (seen_by g.P.Link.Link.taken g.P.Link.Link.left g.P.Link.Link.written g.P.Link.Link.faults g.P.Link.Link.is_shut) c.args.hall.now (c.args.item.number ∷ []) c.args.self.now old new c.self.view_is
    (gone_serving (seen_by g.P.Link.Link.taken g.P.Link.Link.left g.P.Link.Link.written g.P.Link.Link.faults g.P.Link.Link.is_shut) c.args.hall.now (c.args.item.number ∷ []) old new refl c.in-Ok.ensures.served)
