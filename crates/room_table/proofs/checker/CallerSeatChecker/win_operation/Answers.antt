use Rattle.std.proofs.Common.{◌≡◌, ◌+◌, sym, ap, subst, ◌∙◌}
use Rattle.room_core.specs.declared.word.Word.{Word}
use Rattle.room_table.specs.declared.part.CallerStep.{CallerStep}
use Rattle.room_table.specs.Seats.{CallerView, caller_did, caller_now}
use Rattle.room_table.proofs.Seatings.{CallerStands, caller_knows, caller_is_after, caller_seen, caller_placed}
use Rattle.room_table.proofs.Ready.{caller_win_ready}
use Rattle.room_table.specs.Seats.{TableView}
use Rattle.room_core.specs.Checks.{OwnerMayWin}
use Rattle.std.specs.Prelude.{◌%◌}
use Rattle.room_core.specs.Packing.{how_number}
use Rattle.room_core.specs.Packing.{unpacked}
use Rattle.room_core.specs.Packing.{packed}
use Rattle.room_table.proofs.Exchanges.{rest_is}
use Rattle.room_table.proofs.Exchanges.{won_where}
use Rattle.room_table.specs.Tells.{IsOwnWord}
use Rattle.room_core.specs.declared.parts.Phase.TheVariants.{Open}
use Rattle.room_core.specs.declared.parts.Phase.TheVariants.{Won}
use Rattle.room_table.proofs.checker.CallerSeatChecker.win_operation.Goals as goal

pub compare_exchange-found-requires : goal.compare_exchange-found-requires
compare_exchange-found-requires c =
    let board = c.table.inside.board.shared in
    let seat = c.self.inside.seat in
    let stands : CallerStands board.key c.table.inside.shape board.table_id seat.table_id c.self.inside.pass seat.me c.args.table.now c.args.self.now =
    record { rule = c.table.invariant.1; words = c.table.invariant.2; self_is = c.table.view_is; seat_is = c.self.view_is; of_table = c.requires.table; has = c.self.invariant.has } in
    caller_win_ready board.key c.table.inside.shape board.table_id seat.table_id board.table_id.slots seat.id c.self.inside.pass seat.me c.args.table.now c.args.self.now c.args.how c.session_place-at.result c.packed-open.result c.packed-won.result c.self.inside.generation stands (caller_placed stands Word.Session c.session_place-at.result c.session_place-at.ensures) c.self.invariant.generation_is c.packed-open.ensures (c.packed-won.ensures ∙ ap (λ p. packed (record { generation = c.self.inside.generation; phase = Won c.args.how (17 + p) })) (c.requires.may.0 ∙ sym (ap (λ v. v.pass) c.self.view_is))) (subst (λ (t : TableView). OwnerMayWin t.shape c.args.self.now.pass (caller_now c.args.self.now) c.args.how) c.requires.table c.requires.may.1)

pub invariant_of-self : goal.invariant_of-self
invariant_of-self c =
    let board = c.table.inside.board.shared in
    let seat = c.self.inside.seat in
    let stands : CallerStands board.key c.table.inside.shape board.table_id seat.table_id c.self.inside.pass seat.me c.args.table.now c.args.self.now =
    record { rule = c.table.invariant.1; words = c.table.invariant.2; self_is = c.table.view_is; seat_is = c.self.view_is; of_table = c.requires.table; has = c.self.invariant.has } in
    let told = (c.compare_exchange-found.ensures.2 c.args.how (subst (λ n. n % 4 ≡ how_number c.args.how) (sym c.packed-won.ensures) (rest_is c.self.inside.generation c.args.how (17 + c.args.pass)))).0 in
    caller_is_after c.self.inside.pass c.self.inside.generation c.self.inside.generation c.self.inside.first seat.me c.compare_exchange-found.new.seat.me (CallerStep.Won c.args.how (unpacked c.compare_exchange-found.result)) c.self.invariant told (λ e. e)

pub returns : goal.returns
returns c =
    let board = c.table.inside.board.shared in
    let seat = c.self.inside.seat in
    let stands : CallerStands board.key c.table.inside.shape board.table_id seat.table_id c.self.inside.pass seat.me c.args.table.now c.args.self.now =
    record { rule = c.table.invariant.1; words = c.table.invariant.2; self_is = c.table.view_is; seat_is = c.self.view_is; of_table = c.requires.table; has = c.self.invariant.has } in
    let all = c.compare_exchange-found.ensures.2 c.args.how (subst (λ n. n % 4 ≡ how_number c.args.how) (sym c.packed-won.ensures) (rest_is c.self.inside.generation c.args.how (17 + c.args.pass))) in
    let told = all.0 in
    let knows = caller_knows stands in
    let word : IsOwnWord (caller_now c.args.self.now) c.compare_exchange-found.result = subst (λ x. IsOwnWord x c.compare_exchange-found.result) knows all.1 in
    let same : c.packed-open.result ≡ packed (record { generation = (caller_now c.args.self.now).generation; phase = Open }) =
    c.packed-open.ensures ∙ ap (λ g. packed (record { generation = g; phase = Open })) (sym c.self.invariant.generation_is ∙ ap (λ x. x.generation) knows) in (
      c.compare_exchange-found.result,
      caller_seen seat.table_id c.compare_exchange-found.new.seat.table_id c.self.inside.pass seat.me c.compare_exchange-found.new.seat.me (CallerStep.Won c.args.how (unpacked c.compare_exchange-found.result)) stands.has c.compare_exchange-found.ensures.0 told ∙ ap (λ (v : CallerView). caller_did v (CallerStep.Won c.args.how (unpacked c.compare_exchange-found.result))) c.self.view_is,
      word,
      won_where c.compare_exchange-found.result c.packed-open.result (caller_now c.args.self.now).generation word.session same,
    )
