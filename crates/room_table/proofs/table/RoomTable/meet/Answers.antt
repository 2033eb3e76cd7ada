use Rattle.std.proofs.Common.{sym, ap, subst, ◌∙◌}
use Rattle.room_core.specs.declared.word.Word.{Word}
use Rattle.room_table.specs.declared.part.ScannerStep.{ScannerStep}
use Rattle.room_table.specs.Seats.{ScanView, scanner_did}
use Rattle.room_table.proofs.Seatings.{ScannerStands, scanner_on, scanner_knows, scanner_is_after, scanner_seen}
use Rattle.room_table.proofs.Ready.{meet_ready}
use Rattle.room_core.specs.Packing.{unpacked}
use Rattle.room_table.specs.Layout.{place_of}
use Rattle.room_table.specs.Tells.{IsNewest, shape_in}
use Rattle.room_table.proofs.MetPasses.{met_at}
use Rattle.room_table.proofs.Exchanges.{session_small}
use Rattle.room_table.proofs.table.RoomTable.meet.Goals as goal

pub load-found-requires : goal.load-found-requires
load-found-requires c =
    let board = c.self.inside.board.shared in
    let seat = c.scan.inside.seat in
    let stands : ScannerStands board.key c.self.inside.shape board.table_id seat.table_id c.scan.inside.scanner seat.me c.args.self.now c.args.scan.now =
    record { rule = c.self.invariant.1; words = c.self.invariant.2; self_is = c.self.view_is; seat_is = c.scan.view_is; of_table = c.requires.table; has = c.scan.invariant.has } in
    meet_ready board.key c.self.inside.shape board.table_id seat.table_id board.table_id.slots seat.id c.scan.inside.scanner seat.me c.args.self.now c.args.scan.now c.args.pass c.pass_place-first.result stands c.pass_place-first.ensures.place c.requires.may

pub unpacked-requires : goal.unpacked-requires
unpacked-requires c =
    let board = c.self.inside.board.shared in
    let seat = c.scan.inside.seat in
    let stands : ScannerStands board.key c.self.inside.shape board.table_id seat.table_id c.scan.inside.scanner seat.me c.args.self.now c.args.scan.now =
    record { rule = c.self.invariant.1; words = c.self.invariant.2; self_is = c.self.view_is; seat_is = c.scan.view_is; of_table = c.requires.table; has = c.scan.invariant.has } in
    session_small c.load-found.result (c.load-found.ensures.2 c.args.pass (scanner_on stands (Word.Session c.args.pass) c.pass_place-first.result c.pass_place-first.ensures.place)).1

pub invariant_of-scan : goal.invariant_of-scan
invariant_of-scan c =
    let board = c.self.inside.board.shared in
    let seat = c.scan.inside.seat in
    let stands : ScannerStands board.key c.self.inside.shape board.table_id seat.table_id c.scan.inside.scanner seat.me c.args.self.now c.args.scan.now =
    record { rule = c.self.invariant.1; words = c.self.invariant.2; self_is = c.self.view_is; seat_is = c.scan.view_is; of_table = c.requires.table; has = c.scan.invariant.has } in
    let told = (c.load-found.ensures.2 c.args.pass (scanner_on stands (Word.Session c.args.pass) c.pass_place-first.result c.pass_place-first.ensures.place)).0 in
    scanner_is_after c.scan.inside.scanner c.scan.inside.heard c.scan.inside.heard c.scan.inside.met c.scan.inside.first seat.me c.load-found.new.seat.me (ScannerStep.Met c.args.pass (unpacked c.load-found.result)) c.scan.invariant told c.unpacked.result.generation c.pass_place-first.result (λ e. e)
    (λ meeting e.
    let it = met_at (unpacked c.load-found.result) c.args.pass meeting e in (
      it.0 ∙ sym (ap (λ w. w.generation) c.unpacked.ensures),
      scanner_on stands (Word.Session c.args.pass) c.pass_place-first.result c.pass_place-first.ensures.place ∙ ap (λ p. place_of (shape_in seat.me.0) (Word.Session p)) (sym it.1),
    ))
    c.pass_place-first.ensures.fits

pub returns-clause-step : goal.returns-clause-step
returns-clause-step c =
    let board = c.self.inside.board.shared in
    let seat = c.scan.inside.seat in
    let stands : ScannerStands board.key c.self.inside.shape board.table_id seat.table_id c.scan.inside.scanner seat.me c.args.self.now c.args.scan.now =
    record { rule = c.self.invariant.1; words = c.self.invariant.2; self_is = c.self.view_is; seat_is = c.scan.view_is; of_table = c.requires.table; has = c.scan.invariant.has } in
    let told = (c.load-found.ensures.2 c.args.pass (scanner_on stands (Word.Session c.args.pass) c.pass_place-first.result c.pass_place-first.ensures.place)).0 in
    scanner_seen seat.table_id c.load-found.new.seat.table_id c.scan.inside.scanner seat.me c.load-found.new.seat.me (ScannerStep.Met c.args.pass (unpacked c.load-found.result)) stands.has c.load-found.ensures.0 told ∙ ap (λ (v : ScanView). scanner_did v (ScannerStep.Met c.args.pass (unpacked c.load-found.result))) c.scan.view_is

pub returns-clause-word : goal.returns-clause-word
returns-clause-word c =
    let board = c.self.inside.board.shared in
    let seat = c.scan.inside.seat in
    let stands : ScannerStands board.key c.self.inside.shape board.table_id seat.table_id c.scan.inside.scanner seat.me c.args.self.now c.args.scan.now =
    record { rule = c.self.invariant.1; words = c.self.invariant.2; self_is = c.self.view_is; seat_is = c.scan.view_is; of_table = c.requires.table; has = c.scan.invariant.has } in
    (c.load-found.ensures.2 c.args.pass (scanner_on stands (Word.Session c.args.pass) c.pass_place-first.result c.pass_place-first.ensures.place)).1

pub returns-clause-newest : goal.returns-clause-newest
returns-clause-newest c =
    let board = c.self.inside.board.shared in
    let seat = c.scan.inside.seat in
    let stands : ScannerStands board.key c.self.inside.shape board.table_id seat.table_id c.scan.inside.scanner seat.me c.args.self.now c.args.scan.now =
    record { rule = c.self.invariant.1; words = c.self.invariant.2; self_is = c.self.view_is; seat_is = c.scan.view_is; of_table = c.requires.table; has = c.scan.invariant.has } in
    subst (λ x. IsNewest x c.args.pass c.load-found.result) (scanner_knows stands) (c.load-found.ensures.2 c.args.pass (scanner_on stands (Word.Session c.args.pass) c.pass_place-first.result c.pass_place-first.ensures.place)).2
