use Rattle.link_lanes.specs.Going.{HasGone}
use Rattle.link_lanes.specs.Seen.{seen_by}
use Rattle.link_lanes.proofs.lane.Lane.run.Given as goal

abbrev pub invariant-loop : goal.invariant-loop
invariant-loop g l = HasGone (seen_by g.P.Link.Link.taken g.P.Link.Link.left g.P.Link.Link.written g.P.Link.Link.faults g.P.Link.Link.is_shut) l.hall l.initial.self l.self
