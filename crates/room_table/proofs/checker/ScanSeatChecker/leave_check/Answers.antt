use Rattle.std.proofs.Common.{◌≡◌, sym, ap, subst, ◌∙◌}
use Rattle.room_core.specs.declared.word.Word.{Word}
use Rattle.room_table.specs.declared.part.ScannerStep.{ScannerStep}
use Rattle.room_table.specs.Seats.{ScanView, scanner_did, scanner_now}
use Rattle.room_table.proofs.Seatings.{ScannerStands, scanner_on, scanner_met, scanner_is_still, scanner_seen}
use Rattle.room_table.proofs.Ready.{scanner_leave_ready}
use Rattle.room_table.specs.Seats.{TableView}
use Rattle.room_core.specs.Checks.{ScannerMayLeave}
use Rattle.room_table.specs.Tells.{shape_in}
use Rattle.room_table.specs.Tells.{scanner_steps}
use Rattle.room_table.specs.Parts.{scanner_of}
use Rattle.room_table.specs.Tells.{scanner_made}
use Rattle.room_table.proofs.MetPasses.{left_heard}
use Rattle.room_table.proofs.MetPasses.{left_met}
use Rattle.room_table.proofs.checker.ScanSeatChecker.leave_check.Goals as goal

pub load-requires : goal.load-requires
load-requires c =
    let board = c.table.inside.board.shared in
    let seat = c.self.inside.seat in
    let stands : ScannerStands board.key c.table.inside.shape board.table_id seat.table_id c.self.inside.scanner seat.me c.args.table.now c.args.self.now =
    record { rule = c.table.invariant.1; words = c.table.invariant.2; self_is = c.table.view_is; seat_is = c.self.view_is; of_table = c.requires.table; has = c.self.invariant.has } in
    scanner_leave_ready board.key c.table.inside.shape board.table_id seat.table_id board.table_id.slots seat.id c.self.inside.scanner seat.me c.args.table.now c.args.self.now c.args._pass c.args.gauge c.place-at.result stands c.place-at.ensures (subst (λ (t : TableView). ScannerMayLeave t.shape c.args.self.now.scanner (scanner_now c.args.self.now) c.args._pass c.args.gauge) c.requires.table c.requires.may)

pub invariant_of-self : goal.invariant_of-self
invariant_of-self c =
    let board = c.table.inside.board.shared in
    let seat = c.self.inside.seat in
    let stands : ScannerStands board.key c.table.inside.shape board.table_id seat.table_id c.self.inside.scanner seat.me c.args.table.now c.args.self.now =
    record { rule = c.table.invariant.1; words = c.table.invariant.2; self_is = c.table.view_is; seat_is = c.self.view_is; of_table = c.requires.table; has = c.self.invariant.has } in
    let told = subst (λ p. c.load.new.seat.me ≡ (scanner_made (ScannerStep.Left p c.args.gauge c.load.result) seat.me.0, seat.me.1)) (sym (scanner_met stands c.args._pass c.requires.may.3.met)) (c.load.ensures.2 c.args.gauge (scanner_on stands (Word.Value c.args.gauge) c.place-at.result c.place-at.ensures)).0 in
    scanner_is_still c.self.inside.scanner c.self.inside.heard c.self.inside.heard c.self.inside.met c.self.inside.first seat.me c.load.new.seat.me (ScannerStep.Left c.args._pass c.args.gauge c.load.result) c.self.invariant told (λ e. left_heard (shape_in seat.me.0) c.self.inside.scanner (scanner_of (shape_in seat.me.0) c.self.inside.scanner (scanner_steps seat.me.0)) c.args._pass c.args.gauge c.load.result ∙ e) (λ meeting e. (left_met (shape_in seat.me.0) c.self.inside.scanner (scanner_of (shape_in seat.me.0) c.self.inside.scanner (scanner_steps seat.me.0)) c.args._pass c.args.gauge c.load.result meeting e))

pub returns-clause-step : goal.returns-clause-step
returns-clause-step c =
    let board = c.table.inside.board.shared in
    let seat = c.self.inside.seat in
    let stands : ScannerStands board.key c.table.inside.shape board.table_id seat.table_id c.self.inside.scanner seat.me c.args.table.now c.args.self.now =
    record { rule = c.table.invariant.1; words = c.table.invariant.2; self_is = c.table.view_is; seat_is = c.self.view_is; of_table = c.requires.table; has = c.self.invariant.has } in
    let told = subst (λ p. c.load.new.seat.me ≡ (scanner_made (ScannerStep.Left p c.args.gauge c.load.result) seat.me.0, seat.me.1)) (sym (scanner_met stands c.args._pass c.requires.may.3.met)) (c.load.ensures.2 c.args.gauge (scanner_on stands (Word.Value c.args.gauge) c.place-at.result c.place-at.ensures)).0 in
    scanner_seen seat.table_id c.load.new.seat.table_id c.self.inside.scanner seat.me c.load.new.seat.me (ScannerStep.Left c.args._pass c.args.gauge c.load.result) stands.has c.load.ensures.0 told ∙ ap (λ (v : ScanView). scanner_did v (ScannerStep.Left c.args._pass c.args.gauge c.load.result)) c.self.view_is
