use Rattle.std.proofs.Common.{◌≡◌, All, subst, sym}
use Rattle.outside.specs.shared.port.PortViews as port
use Rattle.link_lanes.specs.Halls.{HallView}
use Rattle.link_lanes.proofs.hall.Hall.close_with.Goals as goal
use Rattle.outside.specs.shared.clock.ClockViews as clock
use Rattle.shared_broker.specs.Passes as broker

pub close_outside-requires-clause-keys : goal.close_outside-requires-clause-keys
close_outside-requires-clause-keys g c = subst (λ (h : HallView). All (port.IsPassOf h.port) c.args.parts.keys) (sym c.self.view_is) c.requires.keys

pub close_outside-requires-clause-seats : goal.close_outside-requires-clause-seats
close_outside-requires-clause-seats g c = subst (λ (h : HallView). All (clock.IsPassOf h.clock) c.args.parts.seats) (sym c.self.view_is) c.requires.seats

pub close_broker-requires-clause-made : goal.close_broker-requires-clause-made
close_broker-requires-clause-made g c = subst (λ (h : HallView). All (λ (pass : broker.PassView). broker.made_with pass ≡ h.broker) c.args.parts.passes) (sym c.self.view_is) c.requires.passes
