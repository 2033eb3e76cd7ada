use Rattle.std.proofs.Common.{ap, ◌∙◌}
use Rattle.room_core.specs.declared.word.Word.{Word}
use Rattle.room_table.specs.declared.part.CallerStep.{CallerStep}
use Rattle.room_table.specs.Seats.{CallerView, caller_did}
use Rattle.room_table.proofs.Seatings.{CallerStands, caller_on_word, caller_is_after, caller_seen, caller_placed}
use Rattle.room_table.proofs.Ready.{describe_ready}
use Rattle.room_table.proofs.table.RoomTable.describe.Goals as goal

pub store-requires : goal.store-requires
store-requires c =
    let board = c.self.inside.board.shared in
    let seat = c.caller.inside.seat in
    let stands : CallerStands board.key c.self.inside.shape board.table_id seat.table_id c.caller.inside.pass seat.me c.args.self.now c.args.caller.now =
    record { rule = c.self.invariant.1; words = c.self.invariant.2; self_is = c.self.view_is; seat_is = c.caller.view_is; of_table = c.requires.table; has = c.caller.invariant.has } in
    describe_ready board.key c.self.inside.shape board.table_id seat.table_id board.table_id.slots seat.id c.caller.inside.pass seat.me c.args.self.now c.args.caller.now c.args.at c.args.word c.description_place-at.result stands (caller_placed stands (λ p. Word.Description p c.args.at) c.description_place-at.result c.description_place-at.ensures) c.requires.may

pub invariant_of-caller : goal.invariant_of-caller
invariant_of-caller c =
    let board = c.self.inside.board.shared in
    let seat = c.caller.inside.seat in
    let stands : CallerStands board.key c.self.inside.shape board.table_id seat.table_id c.caller.inside.pass seat.me c.args.self.now c.args.caller.now =
    record { rule = c.self.invariant.1; words = c.self.invariant.2; self_is = c.self.view_is; seat_is = c.caller.view_is; of_table = c.requires.table; has = c.caller.invariant.has } in
    let told = c.store.ensures.2 c.args.at (caller_on_word stands c.args.at c.description_place-at.result (caller_placed stands (λ p. Word.Description p c.args.at) c.description_place-at.result c.description_place-at.ensures)) in
    caller_is_after c.caller.inside.pass c.caller.inside.generation c.caller.inside.generation c.caller.inside.first seat.me c.store.new.seat.me (CallerStep.Described c.args.at c.args.word) c.caller.invariant told (λ e. e)

pub returns : goal.returns
returns c =
    let board = c.self.inside.board.shared in
    let seat = c.caller.inside.seat in
    let stands : CallerStands board.key c.self.inside.shape board.table_id seat.table_id c.caller.inside.pass seat.me c.args.self.now c.args.caller.now =
    record { rule = c.self.invariant.1; words = c.self.invariant.2; self_is = c.self.view_is; seat_is = c.caller.view_is; of_table = c.requires.table; has = c.caller.invariant.has } in
    let told = c.store.ensures.2 c.args.at (caller_on_word stands c.args.at c.description_place-at.result (caller_placed stands (λ p. Word.Description p c.args.at) c.description_place-at.result c.description_place-at.ensures)) in
    caller_seen seat.table_id c.store.new.seat.table_id c.caller.inside.pass seat.me c.store.new.seat.me (CallerStep.Described c.args.at c.args.word) stands.has c.store.ensures.0 told ∙ ap (λ (v : CallerView). caller_did v (CallerStep.Described c.args.at c.args.word)) c.caller.view_is
