use Rattle.std.proofs.Common.{◌∙◌, sym}
use Rattle.link_lanes.specs.Halls.{HallView}
use Rattle.link_lanes.proofs.Made.{last_key}
use Rattle.link_lanes.proofs.sharing.make_hall.Goals as goal

pub returns : goal.returns
returns g c =
    let hall : HallView = record { broker = c.in_ok-shares.shares.within.broker; clock = c.in_ok-shares.shares.within.clock; port = c.in_ok-shares.shares.port; queue = c.in_ok-queue.queue } in
    let keys = last_key g.row.P-Link.Denot hall c.args.lanes c.pop.new.self c.in-Some.opener (sym c.in-Some.ensures.items ∙ c.in_ok-shares.ensures.keys) in
    record {
      within = c.in_ok-shares.ensures.within;
      port_size = c.in_ok-shares.ensures.size;
      terms = c.in_ok-shares.ensures.terms;
      keys_are = keys.0;
      opener_is = keys.1;
      first_is = c.in_ok-queue.ensures.pass;
    }
