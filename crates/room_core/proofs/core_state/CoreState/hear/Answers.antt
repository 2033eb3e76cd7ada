use Rattle.std.proofs.Common.{◌≡◌, ◌<◌, length, get_or, arith, ◌∙◌, ap, sym, Some}
use Rattle.std.specs.Prelude.{slice_get}
use Rattle.std.proofs.lemmas.List.{get_or_default}
use Rattle.std.proofs.lemmas.Option.{slice_get-get_or}
use Rattle.room_core.specs.ScannerTables.{scanner_at, scanner_of}
use Rattle.room_core.specs.Scans.{CanHear, scanner_hears}
use Rattle.room_core.specs.Tables.{state_of}
use Rattle.room_core.proofs.Views.{part_set, put_as}
use Rattle.room_core.proofs.core_state.CoreState.hear.Goals as goal

pub returns-clause-yes : goal.returns-clause-yes
returns-clause-yes c =
    let can : CanHear (state_of c.args.self.now) c.args.scanner c.args.gauge = c.can_hear.ensures.0 c.if-not-can_hear.false in
    let l : c.args.scanner < length c.args.self.now.scanner.items = omega (arith, c.args.self.now.sized.scanner_size, c.args.self.now.sized.room, can.0) in
    let m : c.args.gauge < length c.args.self.now.asked.items = omega (arith, c.args.self.now.sized.asked_size, can.1.there) in
    let asked : c.index-asked.result.now ≡ get_or c.args.self.now.asked.items c.args.gauge 0 = c.index-asked.ensures ∙ get_or_default c.args.self.now.asked.items c.args.gauge _ 0 m in
    let here : slice_get c.args.self.now.scanner.items c.args.scanner ≡ Some c.index_mut-part.result.now =
    slice_get-get_or c.args.self.now.scanner.items c.args.scanner c.index_mut-part.result.now l ∙ ap Some (sym c.index_mut-part.ensures.value) in
    let new : scanner_of c.hears.new.self ≡ scanner_hears (scanner_at (slice_get c.args.self.now.scanner.items c.args.scanner)) c.args.gauge (get_or c.args.self.now.asked.items c.args.gauge 0) =
    c.hears.ensures.part ∙ ap (λ x. scanner_hears (scanner_of c.index_mut-part.result.now) c.args.gauge x) asked
    ∙ ap (λ o. scanner_hears (scanner_at o) c.args.gauge (get_or c.args.self.now.asked.items c.args.gauge 0)) (sym here) in
    λ d. record (state_of c.args.self.now) {
      scanner = (part_set scanner_at c.args.self.now.scanner.items c.args.scanner c.hears.new.self l ∙ put_as (λ q. scanner_at (slice_get c.args.self.now.scanner.items q)) c.args.scanner _ _ new) d;
    }
