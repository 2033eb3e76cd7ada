use Rattle.follower.specs.Flows.{link_of}
use Rattle.follower.specs.Rounds.{IsGoing}
use Rattle.follower.proofs.course.follow.Given as goal

abbrev pub invariant-loop-round : goal.invariant-loop-round
invariant-loop-round g l = IsGoing l.fn.replica
    (link_of (g.L.Link.taken l.fn.link) (g.L.Link.left l.fn.link) (g.L.Link.written l.fn.link) (g.L.Link.faults l.fn.link)) l.round l.replica
    (link_of (g.L.Link.taken l.link) (g.L.Link.left l.link) (g.L.Link.written l.link) (g.L.Link.faults l.link)) l.intake.inbox
