use Rattle.std.proofs.Common.{[], ◌∷◌, ap, refl}
use Rattle.link_lanes.specs.Halls.{LaneView}
use Rattle.link_lanes.specs.Seen.{seen_by}
use Rattle.link_lanes.proofs.Gone.{gone_from, gone_serving, none_gone_accepting, ready_holding}
use Rattle.link_lanes.proofs.lane.Lane.accept.Goals as goal

pub pass_on-requires-clause-ready : goal.pass_on-requires-clause-ready
pass_on-requires-clause-ready g c =
    ready_holding (seen_by g.P.Link.Link.taken g.P.Link.Link.left g.P.Link.Link.written g.P.Link.Link.faults g.P.Link.Link.is_shut) c.args.hall.now (c.in-Link.number ∷ []) c.args.self.now (record { server = c.self.inside.server; hand = c.self.inside.hand; is_stopped = c.self.inside.is_stopped }) c.requires.ready c.accept.new.self c.self.view_is c.in-Link.ensures.served

pub returns-in-Link-clause-gone : goal.returns-in-Link-clause-gone
returns-in-Link-clause-gone g c =
    let old : LaneView g.row.P-Link.Denot = record { server = c.self.inside.server; hand = c.self.inside.hand; is_stopped = c.self.inside.is_stopped } in
    let mid : LaneView g.row.P-Link.Denot = record { server = c.accept.new.self; hand = c.self.inside.hand; is_stopped = c.self.inside.is_stopped } in
    none_gone_accepting (seen_by g.P.Link.Link.taken g.P.Link.Link.left g.P.Link.Link.written g.P.Link.Link.faults g.P.Link.Link.is_shut) c.args.hall.now (c.in-Link.number ∷ []) c.args.self.now old mid c.pass_on.new.self c.pass_on.result c.self.view_is refl c.in-Link.ensures.served c.pass_on.ensures.gone

pub returns-in-Full-clause-over : goal.returns-in-Full-clause-over
returns-in-Full-clause-over g c other =
    let old : LaneView g.row.P-Link.Denot = record { server = c.self.inside.server; hand = c.self.inside.hand; is_stopped = c.self.inside.is_stopped } in
    let new : LaneView g.row.P-Link.Denot = record { server = c.accept.new.self; hand = c.self.inside.hand; is_stopped = c.self.inside.is_stopped } in
    (gone_from (seen_by g.P.Link.Link.taken g.P.Link.Link.left g.P.Link.Link.written g.P.Link.Link.faults g.P.Link.Link.is_shut) c.args.hall.now [] c.args.self.now old new c.self.view_is (gone_serving (seen_by g.P.Link.Link.taken g.P.Link.Link.left g.P.Link.Link.written g.P.Link.Link.faults g.P.Link.Link.is_shut) c.args.hall.now [] old new refl c.in-Full.ensures.served), ap (λ (l : LaneView g.row.P-Link.Denot). l.hand) c.self.view_is)

pub returns-in-Ended-clause-over : goal.returns-in-Ended-clause-over
returns-in-Ended-clause-over g c other =
    let old : LaneView g.row.P-Link.Denot = record { server = c.self.inside.server; hand = c.self.inside.hand; is_stopped = c.self.inside.is_stopped } in
    let new : LaneView g.row.P-Link.Denot = record { server = c.accept.new.self; hand = c.self.inside.hand; is_stopped = c.self.inside.is_stopped } in
    (gone_from (seen_by g.P.Link.Link.taken g.P.Link.Link.left g.P.Link.Link.written g.P.Link.Link.faults g.P.Link.Link.is_shut) c.args.hall.now [] c.args.self.now old new c.self.view_is (gone_serving (seen_by g.P.Link.Link.taken g.P.Link.Link.left g.P.Link.Link.written g.P.Link.Link.faults g.P.Link.Link.is_shut) c.args.hall.now [] old new refl c.in-Ended.ensures.served), ap (λ (l : LaneView g.row.P-Link.Denot). l.hand) c.self.view_is)

pub returns-in-Faulted-clause-over : goal.returns-in-Faulted-clause-over
returns-in-Faulted-clause-over g c other =
    let old : LaneView g.row.P-Link.Denot = record { server = c.self.inside.server; hand = c.self.inside.hand; is_stopped = c.self.inside.is_stopped } in
    let new : LaneView g.row.P-Link.Denot = record { server = c.accept.new.self; hand = c.self.inside.hand; is_stopped = c.self.inside.is_stopped } in
    (gone_from (seen_by g.P.Link.Link.taken g.P.Link.Link.left g.P.Link.Link.written g.P.Link.Link.faults g.P.Link.Link.is_shut) c.args.hall.now [] c.args.self.now old new c.self.view_is (gone_serving (seen_by g.P.Link.Link.taken g.P.Link.Link.left g.P.Link.Link.written g.P.Link.Link.faults g.P.Link.Link.is_shut) c.args.hall.now [] old new refl c.in-Faulted.ensures.served), ap (λ (l : LaneView g.row.P-Link.Denot). l.hand) c.self.view_is)
