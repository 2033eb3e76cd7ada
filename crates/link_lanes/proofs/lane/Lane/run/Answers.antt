use Rattle.link_lanes.specs.Seen.{seen_by}
use Rattle.link_lanes.proofs.Gone.{gone_further, gone_nowhere, none_holds, ready_again}
use Rattle.link_lanes.proofs.lane.Lane.run.Goals as goal

pub loop-init : goal.loop-init
loop-init g c = gone_nowhere (seen_by g.P.Link.Link.taken g.P.Link.Link.left g.P.Link.Link.written g.P.Link.Link.faults g.P.Link.Link.is_shut) c.args.hall.now c.args.self.now

pub step-requires : goal.step-requires
step-requires g c = record { ready = ready_again (seen_by g.P.Link.Link.taken g.P.Link.Link.left g.P.Link.Link.written g.P.Link.Link.faults g.P.Link.Link.is_shut) c.args.hall.now c.args.self.now c.loop.self c.requires.ready c.loop.invariant }

pub loop-preserved : goal.loop-preserved
loop-preserved g c = gone_further (seen_by g.P.Link.Link.taken g.P.Link.Link.left g.P.Link.Link.written g.P.Link.Link.faults g.P.Link.Link.is_shut) c.args.hall.now c.args.self.now c.loop.self c.step.new.self c.loop.invariant (none_holds c.step.result c.in_default.not-Some c.step.ensures.gone)

pub returns-in-Some-step-clause-gone : goal.returns-in-Some-step-clause-gone
returns-in-Some-step-clause-gone g c other = gone_further (seen_by g.P.Link.Link.taken g.P.Link.Link.left g.P.Link.Link.written g.P.Link.Link.faults g.P.Link.Link.is_shut) c.args.hall.now c.args.self.now c.loop.self c.step.new.self c.loop.invariant (c.in-Some-step.ensures.over other).0
