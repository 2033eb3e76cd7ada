use Rattle.std.proofs.Common.{◌≡◌, sym, ap, subst, ◌∙◌}
use Rattle.room_core.specs.declared.word.Word.{Word}
use Rattle.room_table.specs.declared.part.ScannerStep.{ScannerStep}
use Rattle.room_table.specs.Seats.{ScanView, scanner_did}
use Rattle.room_table.proofs.Seatings.{ScannerStands, scanner_met, scanner_on_mark, scanner_is_still, scanner_seen, scanner_placed}
use Rattle.room_table.proofs.Ready.{list_ready}
use Rattle.room_table.specs.Tells.{scanner_made}
use Rattle.room_table.proofs.table.RoomTable.mark.Goals as goal

pub store-requires : goal.store-requires
store-requires c =
    let board = c.self.inside.board.shared in
    let seat = c.scan.inside.seat in
    let stands : ScannerStands board.key c.self.inside.shape board.table_id seat.table_id c.scan.inside.scanner seat.me c.args.self.now c.args.scan.now =
    record { rule = c.self.invariant.1; words = c.self.invariant.2; self_is = c.self.view_is; seat_is = c.scan.view_is; of_table = c.requires.table; has = c.scan.invariant.has } in
    list_ready board.key c.self.inside.shape board.table_id seat.table_id board.table_id.slots seat.id c.scan.inside.scanner seat.me c.args.self.now c.args.scan.now c.args._pass c.args.at c.mark_place-at.result c.from.result stands (scanner_placed stands (λ p. Word.Mark p c.args.at) c.args._pass c.mark_place-at.result c.requires.may.2 c.mark_place-at.ensures) (c.from.ensures ∙ c.requires.generation) c.requires.may

pub invariant_of-scan : goal.invariant_of-scan
invariant_of-scan c =
    let board = c.self.inside.board.shared in
    let seat = c.scan.inside.seat in
    let stands : ScannerStands board.key c.self.inside.shape board.table_id seat.table_id c.scan.inside.scanner seat.me c.args.self.now c.args.scan.now =
    record { rule = c.self.invariant.1; words = c.self.invariant.2; self_is = c.self.view_is; seat_is = c.scan.view_is; of_table = c.requires.table; has = c.scan.invariant.has } in
    let told = subst (λ p. c.store.new.seat.me ≡ (scanner_made (ScannerStep.Listed p c.args.at) seat.me.0, seat.me.1)) (sym (scanner_met stands c.args._pass c.requires.may.2)) (c.store.ensures.2 c.args.at (scanner_on_mark stands c.args._pass c.args.at c.mark_place-at.result c.requires.may.2 (scanner_placed stands (λ p. Word.Mark p c.args.at) c.args._pass c.mark_place-at.result c.requires.may.2 c.mark_place-at.ensures))) in
    scanner_is_still c.scan.inside.scanner c.scan.inside.heard c.scan.inside.heard c.scan.inside.met c.scan.inside.first seat.me c.store.new.seat.me (ScannerStep.Listed c.args._pass c.args.at) c.scan.invariant told (λ e. e) (λ meeting e. e)

pub returns : goal.returns
returns c =
    let board = c.self.inside.board.shared in
    let seat = c.scan.inside.seat in
    let stands : ScannerStands board.key c.self.inside.shape board.table_id seat.table_id c.scan.inside.scanner seat.me c.args.self.now c.args.scan.now =
    record { rule = c.self.invariant.1; words = c.self.invariant.2; self_is = c.self.view_is; seat_is = c.scan.view_is; of_table = c.requires.table; has = c.scan.invariant.has } in
    let told = subst (λ p. c.store.new.seat.me ≡ (scanner_made (ScannerStep.Listed p c.args.at) seat.me.0, seat.me.1)) (sym (scanner_met stands c.args._pass c.requires.may.2)) (c.store.ensures.2 c.args.at (scanner_on_mark stands c.args._pass c.args.at c.mark_place-at.result c.requires.may.2 (scanner_placed stands (λ p. Word.Mark p c.args.at) c.args._pass c.mark_place-at.result c.requires.may.2 c.mark_place-at.ensures))) in
    scanner_seen seat.table_id c.store.new.seat.table_id c.scan.inside.scanner seat.me c.store.new.seat.me (ScannerStep.Listed c.args._pass c.args.at) stands.has c.store.ensures.0 told ∙ ap (λ (v : ScanView). scanner_did v (ScannerStep.Listed c.args._pass c.args.at)) c.scan.view_is
