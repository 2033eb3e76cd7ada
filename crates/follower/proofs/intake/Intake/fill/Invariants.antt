use Rattle.std.proofs.Common.{◌+◌, ◌-◌, length}
use Rattle.kwire.specs.declared.framing.TheConstants.{MOST_FRAME_BYTES}
use Rattle.follower.specs.Flows.{link_of}
use Rattle.follower.specs.Rounds.{HasMore}
use Rattle.follower.proofs.intake.Intake.fill.Given as goal

abbrev pub invariant-loop-end : goal.invariant-loop-end
invariant-loop-end g l = HasMore l.initial.self.inbox l.self.inbox
    (link_of (g.L.Link.taken l.initial.link) (g.L.Link.left l.initial.link) (g.L.Link.written l.initial.link) (g.L.Link.faults l.initial.link))
    (link_of (g.L.Link.taken l.link) (g.L.Link.left l.link) (g.L.Link.written l.link) (g.L.Link.faults l.link))

abbrev pub decreases-loop-end : goal.decreases-loop-end
decreases-loop-end g l = MOST_FRAME_BYTES + 4 - length l.self.inbox
