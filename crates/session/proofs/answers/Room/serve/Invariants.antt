use Rattle.std.proofs.Common.{◌≡◌, ◌≤◌}
use Rattle.session.specs.Flows.{link_of}
use Rattle.session.specs.Standing.{IsServing, Start}
use Rattle.shared_broker.specs.Passes.{made_with}
use Rattle.session.proofs.answers.Room.serve.Given as goal

abbrev pub invariant-loop : goal.invariant-loop
invariant-loop g l = record {
  made : made_with l.pass ≡ made_with l.initial.pass;
  seat : l.seat.made ≡ l.initial.seat.made;
  later : l.initial.seat.told ≤ l.seat.told;
  serving : (start : Start)
      → IsServing start l.initial.seat.told l.initial.pass (link_of (g.L.Link.taken l.initial.link) (g.L.Link.left l.initial.link) (g.L.Link.written l.initial.link) (g.L.Link.faults l.initial.link)) l.initial.intake.inbox
      → IsServing start l.seat.told l.pass (link_of (g.L.Link.taken l.link) (g.L.Link.left l.link) (g.L.Link.written l.link) (g.L.Link.faults l.link)) l.intake.inbox;
}
