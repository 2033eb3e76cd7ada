use Rattle.std.proofs.Common.{◌≡◌, ◌<◌, ℕ, length, arith, ◌∙◌, ap, Option, None}
use Rattle.std.specs.Prelude.{slice_get}
use Rattle.room_core.specs.declared.parts.Entry.{Entry}
use Rattle.room_core.specs.Checks.{other_entry}
use Rattle.room_core.specs.Put.{put}
use Rattle.room_core.specs.ScannerTables.{row, scanner_of}
use Rattle.room_core.proofs.DeadEntries.{listed_past}
use Rattle.room_core.proofs.ScanPlaces.{row_length, cell}
use Rattle.room_core.proofs.scanner_part.ScannerPart.drops_entry.Goals as goal

pub returns-then-gauge-self-clause-part : goal.returns-then-gauge-self-clause-part
returns-then-gauge-self-clause-part c =
    let old = c.args.self.now in
    λ d. record (scanner_of old) { listing = listed_past old.listing.items c.args.gauge c.args.pass c.args.generation (omega (arith, old.sized.listing_size, c.if-gauge-self.true)) d }

pub returns-clause-part : goal.returns-clause-part
returns-clause-part c =
    let old = c.args.self.now in
    let was = scanner_of old in
    let l : c.args.gauge < length old.listing.items = omega (arith, old.sized.listing_size, c.if-gauge-self.false) in
    let size = row_length old.listing.items old.shape.passes c.args.gauge c.index.result.now old.sized.listing_rows l c.index.ensures in
    let m : c.args.pass < length c.index.result.now.items = omega (arith, size, c.requires) in
    let at : c.index-2.result.now ≡ row (slice_get old.listing.items c.args.gauge) None c.args.pass =
    cell old.listing.items c.args.gauge c.args.pass c.index.result.now c.index-2.result.now None l c.index.ensures m c.index-2.ensures in
    let entry : c.entry_of_other-entry.result ≡ other_entry (row (slice_get old.listing.items c.args.gauge) None c.args.pass) c.args.generation =
    c.entry_of_other-entry.ensures ∙ ap (λ o. other_entry o c.args.generation) at in
    c.lists.ensures.part
    ∙ ap (λ (g : ℕ). record was { listing = put was.listing g (put (was.listing g) c.args.pass c.entry_of_other-entry.result) }) c.from.ensures
    ∙ ap (λ (e : Option Entry). record was { listing = put was.listing c.args.gauge (put (was.listing c.args.gauge) c.args.pass e) }) entry
