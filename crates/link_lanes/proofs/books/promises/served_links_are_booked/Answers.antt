use Rattle.link_lanes.proofs.books.Booked.{booked}
use Rattle.link_lanes.proofs.books.promises.served_links_are_booked.Goals as goal

pub returns : goal.returns
returns c = booked
