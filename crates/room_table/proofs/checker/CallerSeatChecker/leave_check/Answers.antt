use Rattle.std.proofs.Common.{ap, subst, ◌∙◌}
use Rattle.room_core.specs.declared.word.Word.{Word}
use Rattle.room_table.specs.declared.part.CallerStep.{CallerStep}
use Rattle.room_table.specs.Seats.{CallerView, caller_did, caller_now}
use Rattle.room_table.proofs.Seatings.{CallerStands, caller_on, caller_is_after, caller_seen}
use Rattle.room_table.proofs.Ready.{caller_leave_ready}
use Rattle.room_table.specs.Seats.{TableView}
use Rattle.room_core.specs.Checks.{OwnerMayLeave}
use Rattle.room_table.proofs.checker.CallerSeatChecker.leave_check.Goals as goal

pub load-requires : goal.load-requires
load-requires c =
    let board = c.table.inside.board.shared in
    let seat = c.self.inside.seat in
    let stands : CallerStands board.key c.table.inside.shape board.table_id seat.table_id c.self.inside.pass seat.me c.args.table.now c.args.self.now =
    record { rule = c.table.invariant.1; words = c.table.invariant.2; self_is = c.table.view_is; seat_is = c.self.view_is; of_table = c.requires.table; has = c.self.invariant.has } in
    caller_leave_ready board.key c.table.inside.shape board.table_id seat.table_id board.table_id.slots seat.id c.self.inside.pass seat.me c.args.table.now c.args.self.now c.args.gauge c.place-at.result stands c.place-at.ensures (subst (λ (t : TableView). OwnerMayLeave t.shape c.args.self.now.pass (caller_now c.args.self.now) c.args.gauge) c.requires.table c.requires.may.1)

pub invariant_of-self : goal.invariant_of-self
invariant_of-self c =
    let board = c.table.inside.board.shared in
    let seat = c.self.inside.seat in
    let stands : CallerStands board.key c.table.inside.shape board.table_id seat.table_id c.self.inside.pass seat.me c.args.table.now c.args.self.now =
    record { rule = c.table.invariant.1; words = c.table.invariant.2; self_is = c.table.view_is; seat_is = c.self.view_is; of_table = c.requires.table; has = c.self.invariant.has } in
    let told = (c.load.ensures.2 c.args.gauge (caller_on stands (Word.Value c.args.gauge) c.place-at.result c.place-at.ensures)).0 in
    caller_is_after c.self.inside.pass c.self.inside.generation c.self.inside.generation c.self.inside.first seat.me c.load.new.seat.me (CallerStep.Left c.args.gauge c.load.result) c.self.invariant told (λ e. e)

pub returns-clause-step : goal.returns-clause-step
returns-clause-step c =
    let board = c.table.inside.board.shared in
    let seat = c.self.inside.seat in
    let stands : CallerStands board.key c.table.inside.shape board.table_id seat.table_id c.self.inside.pass seat.me c.args.table.now c.args.self.now =
    record { rule = c.table.invariant.1; words = c.table.invariant.2; self_is = c.table.view_is; seat_is = c.self.view_is; of_table = c.requires.table; has = c.self.invariant.has } in
    let told = (c.load.ensures.2 c.args.gauge (caller_on stands (Word.Value c.args.gauge) c.place-at.result c.place-at.ensures)).0 in
    caller_seen seat.table_id c.load.new.seat.table_id c.self.inside.pass seat.me c.load.new.seat.me (CallerStep.Left c.args.gauge c.load.result) stands.has c.load.ensures.0 told ∙ ap (λ (v : CallerView). caller_did v (CallerStep.Left c.args.gauge c.load.result)) c.self.view_is
