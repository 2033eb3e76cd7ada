use Rattle.std.proofs.Common.{ap, ◌∙◌}
use Rattle.room_core.specs.declared.word.Word.{Word}
use Rattle.room_table.specs.declared.part.ScannerStep.{ScannerStep}
use Rattle.room_table.specs.Seats.{ScanView, scanner_did}
use Rattle.room_table.proofs.Seatings.{ScannerStands, scanner_on_word, scanner_is_still, scanner_seen, scanner_placed}
use Rattle.room_table.proofs.Ready.{learn_ready}
use Rattle.room_table.proofs.table.RoomTable.learn.Goals as goal

pub load-requires : goal.load-requires
load-requires c =
    let board = c.self.inside.board.shared in
    let seat = c.scan.inside.seat in
    let stands : ScannerStands board.key c.self.inside.shape board.table_id seat.table_id c.scan.inside.scanner seat.me c.args.self.now c.args.scan.now =
    record { rule = c.self.invariant.1; words = c.self.invariant.2; self_is = c.self.view_is; seat_is = c.scan.view_is; of_table = c.requires.table; has = c.scan.invariant.has } in
    learn_ready board.key c.self.inside.shape board.table_id seat.table_id board.table_id.slots seat.id c.scan.inside.scanner seat.me c.args.self.now c.args.scan.now c.args._pass c.args.at c.description_place-at.result stands (scanner_placed stands (λ p. Word.Description p c.args.at) c.args._pass c.description_place-at.result c.requires.may.3 c.description_place-at.ensures) c.requires.may

pub invariant_of-scan : goal.invariant_of-scan
invariant_of-scan c =
    let board = c.self.inside.board.shared in
    let seat = c.scan.inside.seat in
    let stands : ScannerStands board.key c.self.inside.shape board.table_id seat.table_id c.scan.inside.scanner seat.me c.args.self.now c.args.scan.now =
    record { rule = c.self.invariant.1; words = c.self.invariant.2; self_is = c.self.view_is; seat_is = c.scan.view_is; of_table = c.requires.table; has = c.scan.invariant.has } in
    let told = c.load.ensures.2 c.args.at (scanner_on_word stands c.args._pass c.args.at c.description_place-at.result c.requires.may.3 (scanner_placed stands (λ p. Word.Description p c.args.at) c.args._pass c.description_place-at.result c.requires.may.3 c.description_place-at.ensures)) in
    scanner_is_still c.scan.inside.scanner c.scan.inside.heard c.scan.inside.heard c.scan.inside.met c.scan.inside.first seat.me c.load.new.seat.me (ScannerStep.Learned c.args.at c.load.result) c.scan.invariant told (λ e. e) (λ meeting e. e)

pub returns : goal.returns
returns c =
    let board = c.self.inside.board.shared in
    let seat = c.scan.inside.seat in
    let stands : ScannerStands board.key c.self.inside.shape board.table_id seat.table_id c.scan.inside.scanner seat.me c.args.self.now c.args.scan.now =
    record { rule = c.self.invariant.1; words = c.self.invariant.2; self_is = c.self.view_is; seat_is = c.scan.view_is; of_table = c.requires.table; has = c.scan.invariant.has } in
    let told = c.load.ensures.2 c.args.at (scanner_on_word stands c.args._pass c.args.at c.description_place-at.result c.requires.may.3 (scanner_placed stands (λ p. Word.Description p c.args.at) c.args._pass c.description_place-at.result c.requires.may.3 c.description_place-at.ensures)) in
    scanner_seen seat.table_id c.load.new.seat.table_id c.scan.inside.scanner seat.me c.load.new.seat.me (ScannerStep.Learned c.args.at c.load.result) stands.has c.load.ensures.0 told ∙ ap (λ (v : ScanView). scanner_did v (ScannerStep.Learned c.args.at c.load.result)) c.scan.view_is
