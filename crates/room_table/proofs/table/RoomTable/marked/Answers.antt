use Rattle.std.proofs.Common.{◌≤◌, ap, subst, ◌∙◌}
use Rattle.room_core.specs.declared.word.Word.{Word}
use Rattle.room_table.specs.declared.part.CallerStep.{CallerStep}
use Rattle.room_table.specs.Seats.{CallerView, caller_did}
use Rattle.room_table.proofs.Seatings.{CallerStands, caller_on_mark, caller_knows, caller_is_after, caller_seen, caller_placed}
use Rattle.room_table.proofs.Ready.{mark_ready}
use Rattle.room_table.proofs.table.RoomTable.marked.Goals as goal

pub load-requires : goal.load-requires
load-requires c =
    let board = c.self.inside.board.shared in
    let seat = c.caller.inside.seat in
    let stands : CallerStands board.key c.self.inside.shape board.table_id seat.table_id c.caller.inside.pass seat.me c.args.self.now c.args.caller.now =
    record { rule = c.self.invariant.1; words = c.self.invariant.2; self_is = c.self.view_is; seat_is = c.caller.view_is; of_table = c.requires.table; has = c.caller.invariant.has } in
    mark_ready board.key c.self.inside.shape board.table_id seat.table_id board.table_id.slots seat.id c.caller.inside.pass seat.me c.args.self.now c.args.caller.now c.args.at c.mark_place-at.result stands (caller_placed stands (λ p. Word.Mark p c.args.at) c.mark_place-at.result c.mark_place-at.ensures) c.requires.may

pub invariant_of-caller : goal.invariant_of-caller
invariant_of-caller c =
    let board = c.self.inside.board.shared in
    let seat = c.caller.inside.seat in
    let stands : CallerStands board.key c.self.inside.shape board.table_id seat.table_id c.caller.inside.pass seat.me c.args.self.now c.args.caller.now =
    record { rule = c.self.invariant.1; words = c.self.invariant.2; self_is = c.self.view_is; seat_is = c.caller.view_is; of_table = c.requires.table; has = c.caller.invariant.has } in
    let told = (c.load.ensures.2 c.args.at (caller_on_mark stands c.args.at c.mark_place-at.result (caller_placed stands (λ p. Word.Mark p c.args.at) c.mark_place-at.result c.mark_place-at.ensures))).0 in
    caller_is_after c.caller.inside.pass c.caller.inside.generation c.caller.inside.generation c.caller.inside.first seat.me c.load.new.seat.me (CallerStep.SawMark c.args.at c.load.result) c.caller.invariant told (λ e. e)

pub returns-clause-step : goal.returns-clause-step
returns-clause-step c =
    let board = c.self.inside.board.shared in
    let seat = c.caller.inside.seat in
    let stands : CallerStands board.key c.self.inside.shape board.table_id seat.table_id c.caller.inside.pass seat.me c.args.self.now c.args.caller.now =
    record { rule = c.self.invariant.1; words = c.self.invariant.2; self_is = c.self.view_is; seat_is = c.caller.view_is; of_table = c.requires.table; has = c.caller.invariant.has } in
    let told = (c.load.ensures.2 c.args.at (caller_on_mark stands c.args.at c.mark_place-at.result (caller_placed stands (λ p. Word.Mark p c.args.at) c.mark_place-at.result c.mark_place-at.ensures))).0 in
    caller_seen seat.table_id c.load.new.seat.table_id c.caller.inside.pass seat.me c.load.new.seat.me (CallerStep.SawMark c.args.at c.load.result) stands.has c.load.ensures.0 told ∙ ap (λ (v : CallerView). caller_did v (CallerStep.SawMark c.args.at c.load.result)) c.caller.view_is

pub returns-clause-generation : goal.returns-clause-generation
returns-clause-generation c =
    let board = c.self.inside.board.shared in
    let seat = c.caller.inside.seat in
    let stands : CallerStands board.key c.self.inside.shape board.table_id seat.table_id c.caller.inside.pass seat.me c.args.self.now c.args.caller.now =
    record { rule = c.self.invariant.1; words = c.self.invariant.2; self_is = c.self.view_is; seat_is = c.caller.view_is; of_table = c.requires.table; has = c.caller.invariant.has } in
    subst (λ x. c.load.result ≤ x.generation) (caller_knows stands) (c.load.ensures.2 c.args.at (caller_on_mark stands c.args.at c.mark_place-at.result (caller_placed stands (λ p. Word.Mark p c.args.at) c.mark_place-at.result c.mark_place-at.ensures))).1
