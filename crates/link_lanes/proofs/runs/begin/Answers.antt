use Rattle.std.proofs.Common.{◌∙◌, ℕ, ap, arith, length, map, refl, sym}
use Rattle.outside.specs.shared.port.Fresh as port_fresh
use Rattle.outside.specs.shared.queue.QueueViews as queue
use Rattle.link_lanes.specs.Made.{new_lane, seated, with_fewer_parts}
use Rattle.link_lanes.proofs.Made.{as_many_new, seated_so}
use Rattle.link_lanes.proofs.runs.begin.Goals as goal
use Rattle.outside.specs.shared.clock.Fresh as clock_fresh
use Rattle.shared_broker.specs.Making as broker_making

pub seat_lanes-requires : goal.seat_lanes-requires
seat_lanes-requires g c =
    let made = c.in_ok-hall.ensures in
    let hall = c.in_ok-hall.field-0.hall in
    let count = c.args.serving.lanes in
    let passes = as_many_new (broker_making.fresh_pass hall.broker) count c.in_ok-hall.field-0.parts.passes made.within.passes_are in
    let parts = ap (λ (pass : queue.PassView g.row.P-Link.Denot). pass.parts) made.first_is in
    let few = c.requires.lanes.1 in
    record {
      seats = as_many_new (clock_fresh.fresh_pass hall.clock.id) count c.in_ok-hall.field-0.parts.seats made.within.seats_are ∙ sym passes;
      keys = as_many_new (port_fresh.fresh_pass hall.port.id hall.port.terms) count c.in_ok-hall.field-0.parts.keys made.keys_are ∙ sym passes;
      queue = ap (λ (pass : queue.PassView g.row.P-Link.Denot). pass.made) made.first_is;
      room = omega (arith, passes, parts, few);
    }

pub returns : goal.returns
returns g c =
    let made = c.in_ok-hall.ensures in
    let hall = c.in_ok-hall.field-0.hall in
    let parts = c.in_ok-hall.field-0.parts in
    let count = c.args.serving.lanes in
    record {
      config_is = made.within.config_is;
      passes = made.within.broker_size;
      seats = made.within.clock_size;
      keys = made.port_size;
      terms = made.terms;
      lanes_are = c.in_ok-lanes.ensures.lanes
          ∙ ap (map (new_lane hall.queue)) (seated_so g.row.P-Link.Denot hall count parts.passes parts.seats parts.keys (seated parts.passes parts.seats parts.keys) made.within.passes_are made.within.seats_are made.keys_are refl);
      first_is = c.in_ok-lanes.ensures.first
          ∙ ap (λ (n : ℕ). with_fewer_parts n c.in_ok-hall.field-0.first) (as_many_new (broker_making.fresh_pass hall.broker) count parts.passes made.within.passes_are)
          ∙ ap (λ (pass : queue.PassView g.row.P-Link.Denot). with_fewer_parts count pass) made.first_is;
      opener_is = made.opener_is;
    }
