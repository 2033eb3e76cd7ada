use Rattle.follower.specs.Flows.{LinkView, link_of}
use Rattle.follower.proofs.Filling.{more_on, stopped_on}
use Rattle.follower.proofs.intake.Intake.fill.Goals as goal

pub returns-in-Some : goal.returns-in-Some
returns-in-Some g c =
    let a : LinkView = link_of (g.L.Link.taken c.args.link.now) (g.L.Link.left c.args.link.now) (g.L.Link.written c.args.link.now) (g.L.Link.faults c.args.link.now) in
    let b : LinkView = link_of (g.L.Link.taken c.loop-end.link) (g.L.Link.left c.loop-end.link) (g.L.Link.written c.loop-end.link) (g.L.Link.faults c.loop-end.link) in
    let d : LinkView = link_of (g.L.Link.taken c.read.new.link) (g.L.Link.left c.read.new.link) (g.L.Link.written c.read.new.link) (g.L.Link.faults c.read.new.link) in
    stopped_on c.in-Some.end c.args.self.now.inbox c.loop-end.self.inbox a b d c.loop-end.invariant c.in-Some.ensures

pub loop-end-preserved : goal.loop-end-preserved
loop-end-preserved g c =
    let a : LinkView = link_of (g.L.Link.taken c.args.link.now) (g.L.Link.left c.args.link.now) (g.L.Link.written c.args.link.now) (g.L.Link.faults c.args.link.now) in
    let b : LinkView = link_of (g.L.Link.taken c.loop-end.link) (g.L.Link.left c.loop-end.link) (g.L.Link.written c.loop-end.link) (g.L.Link.faults c.loop-end.link) in
    let d : LinkView = link_of (g.L.Link.taken c.read.new.link) (g.L.Link.left c.read.new.link) (g.L.Link.written c.read.new.link) (g.L.Link.faults c.read.new.link) in
    more_on c.args.self.now.inbox c.loop-end.self.inbox c.read.new.self.inbox a b d c.loop-end.invariant c.in_default.ensures.0
