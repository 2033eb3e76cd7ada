use Rattle.std.proofs.Common.{ap, ◌∙◌}
use Rattle.room_core.specs.declared.word.Word.{Word}
use Rattle.room_table.specs.declared.part.CallerStep.{CallerStep}
use Rattle.room_table.specs.Seats.{CallerView, caller_did}
use Rattle.room_table.proofs.Seatings.{CallerStands, caller_on, caller_is_after, caller_seen}
use Rattle.room_table.proofs.Ready.{ask_ready}
use Rattle.room_table.proofs.table.RoomTable.ask.Goals as goal

pub fetch_max-requires : goal.fetch_max-requires
fetch_max-requires c =
    let board = c.self.inside.board.shared in
    let seat = c.caller.inside.seat in
    let stands : CallerStands board.key c.self.inside.shape board.table_id seat.table_id c.caller.inside.pass seat.me c.args.self.now c.args.caller.now =
    record { rule = c.self.invariant.1; words = c.self.invariant.2; self_is = c.self.view_is; seat_is = c.caller.view_is; of_table = c.requires.table; has = c.caller.invariant.has } in
    ask_ready board.key c.self.inside.shape board.table_id seat.table_id board.table_id.slots seat.id c.caller.inside.pass seat.me c.args.self.now c.args.caller.now c.args.gauge c.args.value c.place-at.result stands c.place-at.ensures c.requires.may

pub invariant_of-caller : goal.invariant_of-caller
invariant_of-caller c =
    let board = c.self.inside.board.shared in
    let seat = c.caller.inside.seat in
    let stands : CallerStands board.key c.self.inside.shape board.table_id seat.table_id c.caller.inside.pass seat.me c.args.self.now c.args.caller.now =
    record { rule = c.self.invariant.1; words = c.self.invariant.2; self_is = c.self.view_is; seat_is = c.caller.view_is; of_table = c.requires.table; has = c.caller.invariant.has } in
    let told = c.fetch_max.ensures.2 c.args.gauge (caller_on stands (Word.Asked c.args.gauge) c.place-at.result c.place-at.ensures) in
    caller_is_after c.caller.inside.pass c.caller.inside.generation c.caller.inside.generation c.caller.inside.first seat.me c.fetch_max.new.seat.me (CallerStep.Asked c.args.gauge c.args.value) c.caller.invariant told (λ e. e)

pub returns : goal.returns
returns c =
    let board = c.self.inside.board.shared in
    let seat = c.caller.inside.seat in
    let stands : CallerStands board.key c.self.inside.shape board.table_id seat.table_id c.caller.inside.pass seat.me c.args.self.now c.args.caller.now =
    record { rule = c.self.invariant.1; words = c.self.invariant.2; self_is = c.self.view_is; seat_is = c.caller.view_is; of_table = c.requires.table; has = c.caller.invariant.has } in
    let told = c.fetch_max.ensures.2 c.args.gauge (caller_on stands (Word.Asked c.args.gauge) c.place-at.result c.place-at.ensures) in
    caller_seen seat.table_id c.fetch_max.new.seat.table_id c.caller.inside.pass seat.me c.fetch_max.new.seat.me (CallerStep.Asked c.args.gauge c.args.value) stands.has c.fetch_max.ensures.0 told ∙ ap (λ (v : CallerView). caller_did v (CallerStep.Asked c.args.gauge c.args.value)) c.caller.view_is
