use Rattle.std.proofs.Common.{}
use Rattle.room_table.proofs.Seatings.{SourceStands}
use Rattle.room_table.proofs.Ready.{hush_ready}
use Rattle.room_table.proofs.table.RoomTable.hush.Goals as goal

pub load-requires : goal.load-requires
load-requires c =
    let board = c.self.inside.board.shared in
    let seat = c.source.inside.seat in
    let stands : SourceStands board.key c.self.inside.shape board.table_id seat.table_id c.source.inside.gauge seat.me c.args.self.now c.args.source.now =
    record { rule = c.self.invariant.1; words = c.self.invariant.2; self_is = c.self.view_is; seat_is = c.source.view_is; of_table = c.requires.table; has = c.source.invariant } in
    hush_ready board.key c.self.inside.shape board.table_id seat.table_id board.table_id.slots seat.id c.source.inside.gauge seat.me c.args.self.now c.args.source.now c.place-at.result stands c.place-at.ensures c.requires.there
