use Rattle.std.proofs.Common.{ap, ◌∙◌}
use Rattle.room_core.specs.declared.word.Word.{Word}
use Rattle.room_table.specs.declared.part.ScannerStep.{ScannerStep}
use Rattle.room_table.specs.Seats.{scanner_did}
use Rattle.room_table.proofs.Seatings.{ScannerStands, scanner_on, scanner_knows, scanner_is_still, scanner_seen}
use Rattle.room_table.proofs.Ready.{begin_ready}
use Rattle.room_table.proofs.table.RoomTable.begin.Goals as goal

pub fetch_max-requires : goal.fetch_max-requires
fetch_max-requires c =
    let board = c.self.inside.board.shared in
    let seat = c.scan.inside.seat in
    let stands : ScannerStands board.key c.self.inside.shape board.table_id seat.table_id c.scan.inside.scanner seat.me c.args.self.now c.args.scan.now =
    record { rule = c.self.invariant.1; words = c.self.invariant.2; self_is = c.self.view_is; seat_is = c.scan.view_is; of_table = c.requires.table; has = c.scan.invariant.has } in
    begin_ready board.key c.self.inside.shape board.table_id seat.table_id board.table_id.slots seat.id c.scan.inside.scanner seat.me c.args.self.now c.args.scan.now c.args.gauge c.place-at.result c.scan.inside.heard stands c.place-at.ensures c.scan.invariant.heard_is c.requires.may

pub invariant_of-scan : goal.invariant_of-scan
invariant_of-scan c =
    let board = c.self.inside.board.shared in
    let seat = c.scan.inside.seat in
    let stands : ScannerStands board.key c.self.inside.shape board.table_id seat.table_id c.scan.inside.scanner seat.me c.args.self.now c.args.scan.now =
    record { rule = c.self.invariant.1; words = c.self.invariant.2; self_is = c.self.view_is; seat_is = c.scan.view_is; of_table = c.requires.table; has = c.scan.invariant.has } in
    let told = (c.fetch_max.ensures.2 c.args.gauge (scanner_on stands (Word.Begun c.args.gauge) c.place-at.result c.place-at.ensures)).0 in
    scanner_is_still c.scan.inside.scanner c.scan.inside.heard c.scan.inside.heard c.scan.inside.met c.scan.inside.first seat.me c.fetch_max.new.seat.me (ScannerStep.Began c.args.gauge c.fetch_max.result) c.scan.invariant told (λ e. e) (λ meeting e. absurd (cc))

pub returns : goal.returns
returns c =
    let board = c.self.inside.board.shared in
    let seat = c.scan.inside.seat in
    let stands : ScannerStands board.key c.self.inside.shape board.table_id seat.table_id c.scan.inside.scanner seat.me c.args.self.now c.args.scan.now =
    record { rule = c.self.invariant.1; words = c.self.invariant.2; self_is = c.self.view_is; seat_is = c.scan.view_is; of_table = c.requires.table; has = c.scan.invariant.has } in
    let told = (c.fetch_max.ensures.2 c.args.gauge (scanner_on stands (Word.Begun c.args.gauge) c.place-at.result c.place-at.ensures)).0 in
    scanner_seen seat.table_id c.fetch_max.new.seat.table_id c.scan.inside.scanner seat.me c.fetch_max.new.seat.me (ScannerStep.Began c.args.gauge c.fetch_max.result) stands.has c.fetch_max.ensures.0 told
    ∙ (λ i. scanner_did (c.scan.view_is i) (ScannerStep.Began c.args.gauge (((c.fetch_max.ensures.2 c.args.gauge (scanner_on stands (Word.Begun c.args.gauge) c.place-at.result c.place-at.ensures)).1 ∙ ap (λ x. x.began c.args.gauge) (scanner_knows stands)) i)))
