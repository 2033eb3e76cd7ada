use Rattle.std.proofs.Common.{◌∙◌, sym}
use Rattle.link_lanes.specs.Seen.{seen_by}
use Rattle.link_lanes.proofs.OfHall.{as_many_keys, as_many_passes, as_many_seats, keys_of_port, passes_of_broker, seats_of_clock}
use Rattle.link_lanes.proofs.hall.Hall.close.Goals as goal

pub close_with-requires : goal.close_with-requires
close_with-requires g c =
    let see = seen_by g.P.Link.Link.taken g.P.Link.Link.left g.P.Link.Link.written g.P.Link.Link.faults g.P.Link.Link.is_shut in
    let parts = c.in_ok-parts.ensures in
    record {
      all_keys = as_many_keys c.args.servers c.args.opener c.in_ok-parts.parts.keys parts.keys ∙ sym c.requires.keys;
      keys = keys_of_port see c.args.self c.args.servers c.requires.idle c.args.opener c.in_ok-parts.parts.keys parts.keys c.requires.opener;
      all_seats = as_many_seats c.args.servers c.in_ok-parts.parts.seats parts.seats ∙ sym c.requires.seats;
      seats = seats_of_clock see c.args.self c.args.servers c.requires.idle c.in_ok-parts.parts.seats parts.seats;
      all_passes = as_many_passes c.args.servers c.in_ok-parts.parts.passes parts.passes ∙ sym c.requires.passes;
      passes = passes_of_broker see c.args.self c.args.servers c.requires.idle c.in_ok-parts.parts.passes parts.passes;
    }
