use Rattle.std.proofs.Common.{◌≡◌, ◌<◌, length, get_or, max, arith, ◌∙◌, ap, sym, Some, subst}
use Rattle.std.specs.Prelude.{slice_get}
use Rattle.std.proofs.lemmas.List.{get_or_default}
use Rattle.std.proofs.lemmas.Option.{slice_get-get_or}
use Rattle.room_core.specs.ScannerTables.{scanner_at, scanner_of}
use Rattle.room_core.specs.Scans.{CanBegin, number_heard, scanner_begins}
use Rattle.room_core.specs.Tables.{state_of}
use Rattle.room_core.proofs.Views.{table_set, part_set, put_as}
use Rattle.room_core.proofs.core_state.CoreState.begin.Goals as goal

pub returns-clause-yes : goal.returns-clause-yes
returns-clause-yes c =
    let s = c.args.self.now in
    let k = c.args.scanner in
    let g = c.args.gauge in
    let part = c.index_mut-part.result.now in
    let can : CanBegin (state_of s) k g = c.can_begin.ensures.0 c.if-not-can_begin.false in
    let l : k < length s.scanner.items = omega (arith, s.sized.scanner_size, s.sized.room, can.0) in
    let m : g < length s.begun.items = omega (arith, s.sized.begun_size, can.1) in
    let begun : c.index-begun.result.now ≡ get_or s.begun.items g 0 = c.index-begun.ensures ∙ get_or_default s.begun.items g _ 0 m in
    let here : slice_get s.scanner.items k ≡ Some part = slice_get-get_or s.scanner.items k part l ∙ ap Some (sym c.index_mut-part.ensures.value) in
    let read : slice_get s.scanner.items k ≡ Some c.index.result.now = slice_get-get_or s.scanner.items k c.index.result.now l ∙ ap Some (sym c.index.ensures) in
    let number : c.number_heard-number.result ≡ number_heard (scanner_at (slice_get s.scanner.items k)).heard =
    c.number_heard-number.ensures ∙ ap (λ o. number_heard (scanner_at o).heard) (sym read) in
    let more : c.max.result ≡ max (get_or s.begun.items g 0) (number_heard (scanner_at (slice_get s.scanner.items k)).heard) =
    c.max.ensures ∙ ap (λ x. max x c.number_heard-number.result) begun ∙ ap (max (get_or s.begun.items g 0)) number in
    let shape : part.shape ≡ s.shape = subst (λ x. x.shape ≡ s.shape) (sym c.index_mut-part.ensures.value) (s.sized.scanner_shape k part l) in
    let new : scanner_of c.begins.new.self ≡ scanner_begins s.shape (scanner_at (slice_get s.scanner.items k)) g (get_or s.begun.items g 0) =
    c.begins.ensures.part ∙ ap (λ h. scanner_begins h (scanner_of part) g c.index-begun.result.now) shape
    ∙ ap (λ x. scanner_begins s.shape (scanner_of part) g x) begun
    ∙ ap (λ o. scanner_begins s.shape (scanner_at o) g (get_or s.begun.items g 0)) (sym here) in
    λ d. record (state_of s) {
      begun = (table_set s.begun.items g c.max.result 0 m ∙ put_as (λ i. get_or s.begun.items i 0) g _ _ more) d;
      scanner = (part_set scanner_at s.scanner.items k c.begins.new.self l ∙ put_as (λ q. scanner_at (slice_get s.scanner.items q)) k _ _ new) d;
    }
