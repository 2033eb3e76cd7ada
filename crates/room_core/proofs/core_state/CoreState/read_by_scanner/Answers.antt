use Rattle.std.proofs.Common.{rules, ◌≡◌, ◌<◌, length, get_or, arith, ◌∙◌, ap, sym, Some}
use Rattle.std.specs.Prelude.{slice_get}
use Rattle.std.proofs.lemmas.List.{get_or_default}
use Rattle.std.proofs.lemmas.Option.{slice_get-get_or}
use Rattle.room_core.specs.Checks.{scanner_reads}
use Rattle.room_core.specs.ScannerTables.{scanner_of, scanner_at}
use Rattle.room_core.specs.Tables.{state_of}
use Rattle.room_core.proofs.ScanPlaces.{scanner_place}
use Rattle.room_core.proofs.Views.{part_set, put_as}
use Rattle.room_core.proofs.core_state.CoreState.read_by_scanner.Goals as goal

pub returns-clause-yes : goal.returns-clause-yes
returns-clause-yes c =
    let l : c.args.scanner < length c.args.self.now.scanner.items = scanner_place c.args.self.now.shape c.args.scanner _ (c.is_scanner.ensures.0 (search (rules, c.if-not-is_scanner.false))) c.args.self.now.sized.room.few_scanners c.args.self.now.sized.scanner_size in
    let m : c.args.gauge < length c.args.self.now.value.items = omega (arith, c.args.self.now.sized.value_size) in
    let value : c.index-value.result.now ≡ get_or c.args.self.now.value.items c.args.gauge 0 = c.index-value.ensures ∙ get_or_default c.args.self.now.value.items c.args.gauge _ 0 m in
    let here : slice_get c.args.self.now.scanner.items c.args.scanner ≡ Some c.index_mut-part.result.now =
    slice_get-get_or c.args.self.now.scanner.items c.args.scanner c.index_mut-part.result.now l ∙ ap Some (sym c.index_mut-part.ensures.value) in
    let new : scanner_of c.reads.new.self ≡ scanner_reads (scanner_at (slice_get c.args.self.now.scanner.items c.args.scanner)) c.args.gauge (get_or c.args.self.now.value.items c.args.gauge 0) =
    c.reads.ensures.part ∙ ap (λ x. scanner_reads (scanner_of c.index_mut-part.result.now) c.args.gauge x) value
    ∙ ap (λ o. scanner_reads (scanner_at o) c.args.gauge (get_or c.args.self.now.value.items c.args.gauge 0)) (sym here) in
    λ d. record (state_of c.args.self.now) {
      scanner = (part_set scanner_at c.args.self.now.scanner.items c.args.scanner c.reads.new.self l ∙ put_as (λ q. scanner_at (slice_get c.args.self.now.scanner.items q)) c.args.scanner _ _ new) d;
    }
