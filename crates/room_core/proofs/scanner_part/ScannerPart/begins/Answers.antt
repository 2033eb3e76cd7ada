use Rattle.std.proofs.Common.{◌≡◌, ◌<◌, ℕ, length, get_or, max, arith, ◌∙◌, ap, sym, Some, None, subst}
use Rattle.std.specs.Prelude.{slice_get}
use Rattle.std.proofs.lemmas.Option.{slice_get-get_or}
use Rattle.room_core.specs.ScannerTables.{row, scanner_of}
use Rattle.room_core.specs.Scans.{duty_of, number_heard}
use Rattle.room_core.proofs.Views.{table_set, put_as}
use Rattle.room_core.proofs.scanner_part.ScannerPart.begins.Goals as goal

pub make_duties-requires-clause-size : goal.make_duties-requires-clause-size
make_duties-requires-clause-size c =
    let s = c.args.self.now in
    let l : c.args.gauge < length s.listing.items = omega (arith, s.sized.listing_size) in
    let e : length (get_or s.listing.items c.args.gauge c.index.result.now).items ≡ s.shape.passes = s.sized.listing_rows c.args.gauge c.index.result.now l in
    let r : length c.index.result.now.items ≡ s.shape.passes = subst (λ x. length x.items ≡ s.shape.passes) (sym c.index.ensures) e in
    s.sized.duties_size ∙ sym r ∙ ap length (sym c.deref.ensures.value)

pub returns-clause-part : goal.returns-clause-part
returns-clause-part c =
    let s = c.args.self.now in
    let l : c.args.gauge < length s.listing.items = omega (arith, s.sized.listing_size) in
    let b : c.args.gauge < length s.began.items = omega (arith, s.sized.began_size) in
    let number : c.number_heard-number.result ≡ number_heard s.heard = c.number_heard-number.ensures in
    let more : c.max.result ≡ max c.args.begun (number_heard s.heard) = c.max.ensures ∙ ap (max c.args.begun) number in
    let here : slice_get s.listing.items c.args.gauge ≡ Some c.index.result.now =
    slice_get-get_or s.listing.items c.args.gauge c.index.result.now l ∙ ap Some (sym c.index.ensures) in
    let duties = λ (pass : ℕ).
    c.make_duties.ensures.duties pass
    ∙ ap (λ n. duty_of s.shape c.args.gauge c.args.begun n (get_or c.deref.result.now pass None)) number
    ∙ ap (λ xs. duty_of s.shape c.args.gauge c.args.begun (number_heard s.heard) (get_or xs pass None)) c.deref.ensures.value
    ∙ ap (λ o. duty_of s.shape c.args.gauge c.args.begun (number_heard s.heard) (row o None pass)) (sym here) in
    λ d. record (scanner_of s) {
      began = (table_set s.began.items c.args.gauge c.max.result 0 b ∙ put_as (λ i. get_or s.began.items i 0) c.args.gauge _ _ more) d;
      meeting = None;
      learned = c.forget.ensures.forgotten d;
      readings = c.forget-2.ensures.forgotten d;
      duties = λ pass. duties pass d;
    }
