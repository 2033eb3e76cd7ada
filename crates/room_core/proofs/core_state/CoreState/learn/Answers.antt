use Rattle.std.proofs.Common.{rules, ◌≡◌, ◌<◌, length, arith, ◌∙◌, ap, sym}
use Rattle.std.specs.Prelude.{slice_get}
use Rattle.room_core.specs.Meetings.{scanner_learns}
use Rattle.room_core.specs.ScannerTables.{row, scanner_of, scanner_at}
use Rattle.room_core.specs.Tables.{state_of}
use Rattle.room_core.proofs.ScanPlaces.{scanner_place, here_at, row_length, cell}
use Rattle.room_core.proofs.Views.{part_set, put_as}
use Rattle.room_core.proofs.core_state.CoreState.learn.Goals as goal

pub returns-clause-yes : goal.returns-clause-yes
returns-clause-yes c =
    let old = c.args.self.now in
    let k = c.args.scanner in
    let l : k < length old.scanner.items = scanner_place old.shape k _ (c.is_scanner.ensures.0 (search (rules, c.if-not-is_scanner.false))) old.sized.room.few_scanners old.sized.scanner_size in
    let m : c.args.pass < length old.description.items = omega (arith, old.words.description_size) in
    let size = row_length old.description.items 195 c.args.pass c.index-2.result.now old.words.description_rows m c.index-2.ensures in
    let w : c.args.at < length c.index-2.result.now.items = omega (arith, size) in
    let word : c.index-word.result.now ≡ row (slice_get old.description.items c.args.pass) 0 c.args.at =
    cell old.description.items c.args.pass c.args.at c.index-2.result.now c.index-word.result.now 0 m c.index-2.ensures w c.index-word.ensures in
    let here = here_at old.scanner.items k c.index_mut-part.result.now l c.index_mut-part.ensures.value in
    let new : scanner_of c.learns.new.self ≡ scanner_learns (scanner_at (slice_get old.scanner.items k)) c.args.at (row (slice_get old.description.items c.args.pass) 0 c.args.at) =
    c.learns.ensures.part ∙ ap (λ x. scanner_learns (scanner_of c.index_mut-part.result.now) c.args.at x) word
    ∙ ap (λ o. scanner_learns (scanner_at o) c.args.at (row (slice_get old.description.items c.args.pass) 0 c.args.at)) (sym here) in
    λ d. record (state_of old) {
      scanner = (part_set scanner_at old.scanner.items k c.learns.new.self l ∙ put_as (λ q. scanner_at (slice_get old.scanner.items q)) k _ _ new) d;
    }
