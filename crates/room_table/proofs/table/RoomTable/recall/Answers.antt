use Rattle.std.proofs.Common.{ap, subst, sym, ◌∙◌}
use Rattle.room_core.specs.declared.word.Word.{Word}
use Rattle.room_table.specs.Seats.{CallerIs, caller_view}
use Rattle.room_table.specs.Tells.{Sat}
use Rattle.room_table.proofs.Seatings.{CallerStands, caller_on_word, caller_knows, caller_placed}
use Rattle.room_table.proofs.Ready.{recall_ready}
use Rattle.room_table.proofs.table.RoomTable.recall.Goals as goal

pub load-requires : goal.load-requires
load-requires c =
    let board = c.self.inside.board.shared in
    let seat = c.caller.inside.seat in
    let stands : CallerStands board.key c.self.inside.shape board.table_id seat.table_id c.caller.inside.pass seat.me c.args.self.now c.args.caller.now =
    record { rule = c.self.invariant.1; words = c.self.invariant.2; self_is = c.self.view_is; seat_is = c.caller.view_is; of_table = c.requires.table; has = c.caller.invariant.has } in
    recall_ready board.key c.self.inside.shape board.table_id seat.table_id board.table_id.slots seat.id c.caller.inside.pass seat.me c.args.self.now c.args.caller.now c.args.at c.description_place-at.result stands (caller_placed stands (λ p. Word.Description p c.args.at) c.description_place-at.result c.description_place-at.ensures) c.requires.may

pub invariant_of-caller : goal.invariant_of-caller
invariant_of-caller c =
    let board = c.self.inside.board.shared in
    let seat = c.caller.inside.seat in
    let stands : CallerStands board.key c.self.inside.shape board.table_id seat.table_id c.caller.inside.pass seat.me c.args.self.now c.args.caller.now =
    record { rule = c.self.invariant.1; words = c.self.invariant.2; self_is = c.self.view_is; seat_is = c.caller.view_is; of_table = c.requires.table; has = c.caller.invariant.has } in
    let told = c.load.ensures.2 c.args.at (caller_on_word stands c.args.at c.description_place-at.result (caller_placed stands (λ p. Word.Description p c.args.at) c.description_place-at.result c.description_place-at.ensures)) in
    subst (CallerIs c.caller.inside.pass c.caller.inside.generation c.caller.inside.first) (sym told.0) c.caller.invariant

pub returns-clause-still : goal.returns-clause-still
returns-clause-still c =
    let board = c.self.inside.board.shared in
    let seat = c.caller.inside.seat in
    let stands : CallerStands board.key c.self.inside.shape board.table_id seat.table_id c.caller.inside.pass seat.me c.args.self.now c.args.caller.now =
    record { rule = c.self.invariant.1; words = c.self.invariant.2; self_is = c.self.view_is; seat_is = c.caller.view_is; of_table = c.requires.table; has = c.caller.invariant.has } in
    let told = c.load.ensures.2 c.args.at (caller_on_word stands c.args.at c.description_place-at.result (caller_placed stands (λ p. Word.Description p c.args.at) c.description_place-at.result c.description_place-at.ensures)) in
    ap (λ (m : Sat). caller_view c.load.new.seat.table_id c.caller.inside.pass m.0) told.0 ∙ ap (λ id. caller_view id c.caller.inside.pass seat.me.0) c.load.ensures.0 ∙ c.caller.view_is

pub returns-clause-word : goal.returns-clause-word
returns-clause-word c =
    let board = c.self.inside.board.shared in
    let seat = c.caller.inside.seat in
    let stands : CallerStands board.key c.self.inside.shape board.table_id seat.table_id c.caller.inside.pass seat.me c.args.self.now c.args.caller.now =
    record { rule = c.self.invariant.1; words = c.self.invariant.2; self_is = c.self.view_is; seat_is = c.caller.view_is; of_table = c.requires.table; has = c.caller.invariant.has } in
    let told = c.load.ensures.2 c.args.at (caller_on_word stands c.args.at c.description_place-at.result (caller_placed stands (λ p. Word.Description p c.args.at) c.description_place-at.result c.description_place-at.ensures)) in
    told.1 ∙ ap (λ x. x.description c.args.at) (caller_knows stands)
