use Rattle.std.proofs.Common.{◌≤◌, ap, refl, subst, ◌∙◌}
use Rattle.room_core.specs.declared.word.Word.{Word}
use Rattle.room_table.specs.declared.part.ScannerStep.{ScannerStep}
use Rattle.room_table.specs.Seats.{ScanView, scanner_did}
use Rattle.room_table.proofs.Seatings.{ScannerStands, scanner_on, scanner_knows, scanner_is_still, scanner_seen}
use Rattle.room_table.proofs.Ready.{hear_ready}
use Rattle.room_table.proofs.table.RoomTable.hear.Goals as goal

pub load-asked-requires : goal.load-asked-requires
load-asked-requires c =
    let board = c.self.inside.board.shared in
    let seat = c.scan.inside.seat in
    let stands : ScannerStands board.key c.self.inside.shape board.table_id seat.table_id c.scan.inside.scanner seat.me c.args.self.now c.args.scan.now =
    record { rule = c.self.invariant.1; words = c.self.invariant.2; self_is = c.self.view_is; seat_is = c.scan.view_is; of_table = c.requires.table; has = c.scan.invariant.has } in
    hear_ready board.key c.self.inside.shape board.table_id seat.table_id board.table_id.slots seat.id c.scan.inside.scanner seat.me c.args.self.now c.args.scan.now c.args.gauge c.place-at.result stands c.place-at.ensures c.requires.may

pub invariant_of-scan : goal.invariant_of-scan
invariant_of-scan c =
    let board = c.self.inside.board.shared in
    let seat = c.scan.inside.seat in
    let stands : ScannerStands board.key c.self.inside.shape board.table_id seat.table_id c.scan.inside.scanner seat.me c.args.self.now c.args.scan.now =
    record { rule = c.self.invariant.1; words = c.self.invariant.2; self_is = c.self.view_is; seat_is = c.scan.view_is; of_table = c.requires.table; has = c.scan.invariant.has } in
    let told = (c.load-asked.ensures.2 c.args.gauge (scanner_on stands (Word.Asked c.args.gauge) c.place-at.result c.place-at.ensures)).0 in
    scanner_is_still c.scan.inside.scanner c.scan.inside.heard c.load-asked.result c.scan.inside.met c.scan.inside.first seat.me c.load-asked.new.seat.me (ScannerStep.Heard c.args.gauge c.load-asked.result) c.scan.invariant told (λ e. refl) (λ meeting e. e)

pub returns-clause-step : goal.returns-clause-step
returns-clause-step c =
    let board = c.self.inside.board.shared in
    let seat = c.scan.inside.seat in
    let stands : ScannerStands board.key c.self.inside.shape board.table_id seat.table_id c.scan.inside.scanner seat.me c.args.self.now c.args.scan.now =
    record { rule = c.self.invariant.1; words = c.self.invariant.2; self_is = c.self.view_is; seat_is = c.scan.view_is; of_table = c.requires.table; has = c.scan.invariant.has } in
    let told = (c.load-asked.ensures.2 c.args.gauge (scanner_on stands (Word.Asked c.args.gauge) c.place-at.result c.place-at.ensures)).0 in
    scanner_seen seat.table_id c.load-asked.new.seat.table_id c.scan.inside.scanner seat.me c.load-asked.new.seat.me (ScannerStep.Heard c.args.gauge c.load-asked.result) stands.has c.load-asked.ensures.0 told ∙ ap (λ (v : ScanView). scanner_did v (ScannerStep.Heard c.args.gauge c.load-asked.result)) c.scan.view_is

pub returns-clause-begun : goal.returns-clause-begun
returns-clause-begun c =
    let board = c.self.inside.board.shared in
    let seat = c.scan.inside.seat in
    let stands : ScannerStands board.key c.self.inside.shape board.table_id seat.table_id c.scan.inside.scanner seat.me c.args.self.now c.args.scan.now =
    record { rule = c.self.invariant.1; words = c.self.invariant.2; self_is = c.self.view_is; seat_is = c.scan.view_is; of_table = c.requires.table; has = c.scan.invariant.has } in
    subst (λ x. x.began c.args.gauge ≤ c.load-asked.result) (scanner_knows stands) (c.load-asked.ensures.2 c.args.gauge (scanner_on stands (Word.Asked c.args.gauge) c.place-at.result c.place-at.ensures)).1
