use Rattle.std.proofs.Common.{◌≡◌, ◌≤◌, sym, ap, subst, ◌∙◌}
use Rattle.room_core.specs.declared.word.Word.{Word}
use Rattle.room_table.specs.declared.part.ScannerStep.{ScannerStep}
use Rattle.room_core.specs.Meetings.{IsMet}
use Rattle.room_table.specs.Seats.{ScanView, scanner_did, scanner_now}
use Rattle.room_table.proofs.Seatings.{ScannerStands, scanner_on, scanner_knows, scanner_is_still, met_generation, scanner_seen, scanner_placed}
use Rattle.room_table.proofs.Ready.{scanner_win_ready}
use Rattle.room_table.specs.Seats.{TableView}
use Rattle.room_core.specs.Checks.{ScannerMayWin}
use Rattle.std.specs.Prelude.{◌%◌}
use Rattle.room_core.specs.Packing.{how_number}
use Rattle.room_core.specs.Packing.{unpacked}
use Rattle.room_core.specs.Packing.{packed}
use Rattle.room_table.proofs.Exchanges.{rest_is}
use Rattle.room_table.proofs.Exchanges.{won_where}
use Rattle.room_core.specs.declared.parts.Phase.TheVariants.{Open}
use Rattle.room_core.specs.Meetings.{generation_met}
use Rattle.room_table.proofs.checker.ScanSeatChecker.win_operation.Goals as goal

pub compare_exchange-found-requires : goal.compare_exchange-found-requires
compare_exchange-found-requires c =
    let board = c.table.inside.board.shared in
    let seat = c.self.inside.seat in
    let stands : ScannerStands board.key c.table.inside.shape board.table_id seat.table_id c.self.inside.scanner seat.me c.args.table.now c.args.self.now =
    record { rule = c.table.invariant.1; words = c.table.invariant.2; self_is = c.table.view_is; seat_is = c.self.view_is; of_table = c.requires.table; has = c.self.invariant.has } in
    scanner_win_ready board.key c.table.inside.shape board.table_id seat.table_id board.table_id.slots seat.id c.self.inside.scanner seat.me c.args.table.now c.args.self.now c.args.pass c.args.how c.session_place-at.result c.packed-open.result c.packed-won.result c.self.inside.met stands (scanner_placed stands Word.Session c.args.pass c.session_place-at.result c.requires.may.2.met c.session_place-at.ensures) (met_generation c.self.inside.scanner c.self.inside.heard c.self.inside.met c.self.inside.first c.args.pass seat.me c.self.invariant (subst (λ x. IsMet x.meeting c.args.pass) (sym (scanner_knows stands)) c.requires.may.2.met)) c.packed-open.ensures c.packed-won.ensures (subst (λ (t : TableView). ScannerMayWin t.shape c.args.self.now.scanner (scanner_now c.args.self.now) c.args.pass c.args.how) c.requires.table c.requires.may)

pub invariant_of-self : goal.invariant_of-self
invariant_of-self c =
    let board = c.table.inside.board.shared in
    let seat = c.self.inside.seat in
    let stands : ScannerStands board.key c.table.inside.shape board.table_id seat.table_id c.self.inside.scanner seat.me c.args.table.now c.args.self.now =
    record { rule = c.table.invariant.1; words = c.table.invariant.2; self_is = c.table.view_is; seat_is = c.self.view_is; of_table = c.requires.table; has = c.self.invariant.has } in
    let told = (c.compare_exchange-found.ensures.2 c.args.pass c.args.how (scanner_on stands (Word.Session c.args.pass) c.session_place-at.result (scanner_placed stands Word.Session c.args.pass c.session_place-at.result c.requires.may.2.met c.session_place-at.ensures)) (subst (λ n. n % 4 ≡ how_number c.args.how) (sym c.packed-won.ensures) (rest_is c.self.inside.met c.args.how c.self.inside.scanner))).0 in
    scanner_is_still c.self.inside.scanner c.self.inside.heard c.self.inside.heard c.self.inside.met c.self.inside.first seat.me c.compare_exchange-found.new.seat.me (ScannerStep.Won c.args.pass c.args.how (unpacked c.compare_exchange-found.result)) c.self.invariant told (λ e. e) (λ meeting e. absurd (cc))

pub returns : goal.returns
returns c =
    let board = c.table.inside.board.shared in
    let seat = c.self.inside.seat in
    let stands : ScannerStands board.key c.table.inside.shape board.table_id seat.table_id c.self.inside.scanner seat.me c.args.table.now c.args.self.now =
    record { rule = c.table.invariant.1; words = c.table.invariant.2; self_is = c.table.view_is; seat_is = c.self.view_is; of_table = c.requires.table; has = c.self.invariant.has } in
    let all = c.compare_exchange-found.ensures.2 c.args.pass c.args.how (scanner_on stands (Word.Session c.args.pass) c.session_place-at.result (scanner_placed stands Word.Session c.args.pass c.session_place-at.result c.requires.may.2.met c.session_place-at.ensures)) (subst (λ n. n % 4 ≡ how_number c.args.how) (sym c.packed-won.ensures) (rest_is c.self.inside.met c.args.how c.self.inside.scanner)) in
    let told = all.0 in
    let knows = scanner_knows stands in
    let same : c.packed-open.result ≡ packed (record { generation = generation_met (scanner_now c.args.self.now).meeting; phase = Open }) =
    c.packed-open.ensures ∙ ap (λ g. packed (record { generation = g; phase = Open })) (sym (met_generation c.self.inside.scanner c.self.inside.heard c.self.inside.met c.self.inside.first c.args.pass seat.me c.self.invariant (subst (λ x. IsMet x.meeting c.args.pass) (sym (scanner_knows stands)) c.requires.may.2.met)) ∙ ap (λ x. generation_met x.meeting) knows) in (
      c.compare_exchange-found.result,
      scanner_seen seat.table_id c.compare_exchange-found.new.seat.table_id c.self.inside.scanner seat.me c.compare_exchange-found.new.seat.me (ScannerStep.Won c.args.pass c.args.how (unpacked c.compare_exchange-found.result)) stands.has c.compare_exchange-found.ensures.0 told ∙ ap (λ (v : ScanView). scanner_did v (ScannerStep.Won c.args.pass c.args.how (unpacked c.compare_exchange-found.result))) c.self.view_is,
      (all.1, subst (λ x. generation_met x.meeting ≤ (unpacked c.compare_exchange-found.result).generation) knows all.2),
      won_where c.compare_exchange-found.result c.packed-open.result (generation_met (scanner_now c.args.self.now).meeting) all.1 same,
    )
