use Rattle.std.proofs.Common.{rules, ◌≡◌, ◌<◌, length, arith, ◌∙◌, ap, sym, subst, refl}
use Rattle.std.specs.Prelude.{slice_get}
use Rattle.std.specs.Vec.{with_item}
use Rattle.room_core.specs.Gauges.{IsScanner, IsShape}
use Rattle.room_core.specs.Meetings.{IsMet, generation_met, scanner_marks}
use Rattle.room_core.specs.Put.{put}
use Rattle.room_core.specs.ScannerTables.{row, scanner_of, scanner_at}
use Rattle.room_core.specs.Tables.{state_of}
use Rattle.room_core.proofs.ScanPlaces.{scanner_place, here_at, row_length, cell_set, marked_in, all_at, same_at, MayMark}
use Rattle.room_core.proofs.Views.{part_set, put_as}
use Rattle.room_core.proofs.core_state.CoreState.mark.Goals as goal

pub marks-requires-clause-gauge_in : goal.marks-requires-clause-gauge_in
marks-requires-clause-gauge_in c =
    let old = c.args.self.now in
    let k = c.args.scanner in
    let l : k < length old.scanner.items = scanner_place old.shape k _ (c.is_scanner.ensures.0 (search (rules, c.if-not-is_scanner.false))) old.sized.room.few_scanners old.sized.scanner_size in
    let now = c.index_mut-part.result.now in
    let shape : now.shape ≡ old.shape = all_at (λ p. p.shape ≡ old.shape) old.scanner.items k now old.sized.scanner_shape l c.index_mut-part.ensures.value in
    let same = same_at old.scanner.items k c.index-part.result.now now l c.index-part.ensures c.index_mut-part.ensures.value in
    let may : MayMark now.shape k (scanner_of now) c.args.at = subst (λ p. MayMark p.shape k (scanner_of p) c.args.at) same (c.may_mark.ensures.0 (search (rules, c.if-not-may_mark.false))) in
    (marked_in now.shape k (scanner_of now) c.args.at (subst IsShape (sym shape) old.sized.room) may).1

pub returns-clause-allowed : goal.returns-clause-allowed
returns-clause-allowed c =
    let old = c.args.self.now in
    let k = c.args.scanner in
    let is : IsScanner old.shape k = c.is_scanner.ensures.0 (search (rules, c.if-not-is_scanner.false)) in
    let l : k < length old.scanner.items = scanner_place old.shape k _ is old.sized.room.few_scanners old.sized.scanner_size in
    let part = c.index-part.result.now in
    let shape : part.shape ≡ old.shape = all_at (λ p. p.shape ≡ old.shape) old.scanner.items k part old.sized.scanner_shape l c.index-part.ensures in
    let here = here_at old.scanner.items k part l c.index-part.ensures in
    let met : IsMet (scanner_at (slice_get old.scanner.items k)).meeting c.args.pass = subst (λ o. IsMet (scanner_at o).meeting c.args.pass) (sym here) (c.is_met.ensures.0 (search (rules, c.if-not-is_met.false))) in
    let may : MayMark old.shape k (scanner_at (slice_get old.scanner.items k)) c.args.at =
    subst (λ o. MayMark old.shape k (scanner_at o) c.args.at) (sym here) (subst (λ s. MayMark s k (scanner_of part) c.args.at) shape (c.may_mark.ensures.0 (search (rules, c.if-not-may_mark.false)))) in
    (λ t. (is, omega (arith, c.if-pass-self.false), met, may), λ t. search rules)

pub returns-clause-yes : goal.returns-clause-yes
returns-clause-yes c =
    let old = c.args.self.now in
    let k = c.args.scanner in
    let l : k < length old.scanner.items = scanner_place old.shape k _ (c.is_scanner.ensures.0 (search (rules, c.if-not-is_scanner.false))) old.sized.room.few_scanners old.sized.scanner_size in
    let m : c.args.pass < length old.marks.items = omega (arith, old.words.marks_size, c.if-pass-self.false) in
    let part = c.index-part.result.now in
    let shape : part.shape ≡ old.shape = all_at (λ p. p.shape ≡ old.shape) old.scanner.items k part old.sized.scanner_shape l c.index-part.ensures in
    let here = here_at old.scanner.items k part l c.index-part.ensures in
    let now = c.index_mut-part.result.now in
    let same = same_at old.scanner.items k part now l c.index-part.ensures c.index_mut-part.ensures.value in
    let at_most = (marked_in part.shape k (scanner_of part) c.args.at (subst IsShape (sym shape) old.sized.room) (c.may_mark.ensures.0 (search (rules, c.if-not-may_mark.false)))).0 in
    let was = c.index_mut-marks.result.now in
    let size = row_length old.marks.items 65 c.args.pass was old.words.marks_rows m c.index_mut-marks.ensures.value in
    let w : c.args.at < length was.items = omega (arith, size, at_most) in
    let generation : c.generation-generation.result ≡ generation_met (scanner_at (slice_get old.scanner.items k)).meeting =
    c.generation-generation.ensures ∙ ap (λ o. generation_met (scanner_at o).meeting) (sym here) in
    let new : scanner_of c.marks.new.self ≡ scanner_marks old.shape (scanner_at (slice_get old.scanner.items k)) c.args.pass c.args.at =
    c.marks.ensures.part ∙ ap (λ p. scanner_marks p.shape (scanner_of p) c.args.pass c.args.at) (sym same)
    ∙ ap (λ s. scanner_marks s (scanner_of part) c.args.pass c.args.at) shape
    ∙ ap (λ o. scanner_marks old.shape (scanner_at o) c.args.pass c.args.at) (sym here) in
    λ d. record (state_of old) {
      marks = (cell_set old.marks.items c.args.pass c.args.at was (with_item was c.args.at c.generation-generation.result) c.generation-generation.result 0 m c.index_mut-marks.ensures.value w refl
          ∙ ap (λ v. put (λ q. row (slice_get old.marks.items q) 0) c.args.pass (put (row (slice_get old.marks.items c.args.pass) 0) c.args.at v)) generation) d;
      scanner = (part_set scanner_at old.scanner.items k c.marks.new.self l ∙ put_as (λ q. scanner_at (slice_get old.scanner.items q)) k _ _ new) d;
    }
