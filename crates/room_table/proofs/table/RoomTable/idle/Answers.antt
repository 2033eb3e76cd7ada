use Rattle.std.proofs.Common.{}
use Rattle.room_core.specs.declared.word.Word.{Word}
use Rattle.room_table.proofs.Seatings.{CallerStands, caller_placed}
use Rattle.room_table.proofs.Ready.{idle_ready}
use Rattle.room_table.proofs.table.RoomTable.idle.Goals as goal

pub store-requires : goal.store-requires
store-requires c =
    let board = c.self.inside.board.shared in
    let seat = c.caller.inside.seat in
    let stands : CallerStands board.key c.self.inside.shape board.table_id seat.table_id c.caller.inside.pass seat.me c.args.self.now c.args.caller.now =
    record { rule = c.self.invariant.1; words = c.self.invariant.2; self_is = c.self.view_is; seat_is = c.caller.view_is; of_table = c.requires.table; has = c.caller.invariant.has } in
    idle_ready board.key c.self.inside.shape board.table_id seat.table_id board.table_id.slots seat.id c.caller.inside.pass seat.me c.args.self.now c.args.caller.now c.session_place-at.result c.packed-word.result c.caller.inside.generation stands (caller_placed stands Word.Session c.session_place-at.result c.session_place-at.ensures) c.caller.invariant.generation_is c.packed-word.ensures c.requires.may
