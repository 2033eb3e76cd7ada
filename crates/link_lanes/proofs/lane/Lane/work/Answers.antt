use Rattle.std.proofs.Common.{[], ap, sym}
use Rattle.link_lanes.specs.Going.{HasGone}
use Rattle.link_lanes.specs.Halls.{LaneView}
use Rattle.link_lanes.specs.Seen.{seen_by}
use Rattle.link_lanes.proofs.Gone.{gone_to}
use Rattle.link_lanes.proofs.lane.Lane.work.Goals as goal
use Rattle.link_lanes.proofs.lane.Lane.work.Goals.{in-NoMemory, in_default}

pub returns : goal.returns
returns g c = record {
  gone = λ running.
      let new : LaneView g.row.P-Link.Denot = record { server = c.self.inside.server; hand = c.self.inside.hand; is_stopped = c.match-matches.self } in
      let done : HasGone (seen_by g.P.Link.Link.taken g.P.Link.Link.left g.P.Link.Link.written g.P.Link.Link.faults g.P.Link.Link.is_shut) c.args.hall.now c.args.self.now c.run.new.self = elim c.match-matches.branch [ in-NoMemory w ↦ absurd cc | in_default w ↦ c.run.ensures.gone w.in_default.not-NoMemory ] in
      gone_to (seen_by g.P.Link.Link.taken g.P.Link.Link.left g.P.Link.Link.written g.P.Link.Link.faults g.P.Link.Link.is_shut) c.args.hall.now [] c.args.self.now c.run.new.self new (ap (λ (l : LaneView g.row.P-Link.Denot). l.hand) (sym c.self.view_is)) (ap (λ (l : LaneView g.row.P-Link.Denot). l.server) (sym c.self.view_is)) done;
}
