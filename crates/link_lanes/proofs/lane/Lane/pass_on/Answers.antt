use Rattle.std.proofs.Common.{[], ◌∷◌, refl}
use Rattle.link_lanes.specs.Halls.{LaneView}
use Rattle.link_lanes.specs.Seen.{seen_by}
use Rattle.link_lanes.proofs.Gone.{gone_from, gone_putting}
use Rattle.link_lanes.proofs.lane.Lane.pass_on.Goals as goal

pub returns-in-Ok-clause-gone : goal.returns-in-Ok-clause-gone
returns-in-Ok-clause-gone g c =
    let old : LaneView g.row.P-Link.Denot = record { server = c.self.inside.server; hand = c.self.inside.hand; is_stopped = c.self.inside.is_stopped } in
    let new : LaneView g.row.P-Link.Denot = record { server = c.self.inside.server; hand = c.push.new.pass; is_stopped = c.self.inside.is_stopped } in
    gone_from (seen_by g.P.Link.Link.taken g.P.Link.Link.left g.P.Link.Link.written g.P.Link.Link.faults g.P.Link.Link.is_shut) c.args.hall.now (c.args.item.number ∷ []) c.args.self.now old new c.self.view_is
    (gone_putting (seen_by g.P.Link.Link.taken g.P.Link.Link.left g.P.Link.Link.written g.P.Link.Link.faults g.P.Link.Link.is_shut) c.args.hall.now c.args.item old new c.in-Ok.ensures.put refl)
