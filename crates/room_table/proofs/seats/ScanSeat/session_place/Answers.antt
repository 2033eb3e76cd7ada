use Rattle.std.proofs.Common.{}
use Rattle.room_table.proofs.Seatings.{scanner_first}
use Rattle.room_table.proofs.seats.ScanSeat.session_place.Goals as goal

pub returns : goal.returns
returns c pass met = scanner_first c.self.inside.scanner c.self.inside.heard c.self.inside.met c.self.inside.first pass c.self.inside.seat.table_id c.self.inside.seat.me c.args.self.now c.self.invariant c.self.view_is met
