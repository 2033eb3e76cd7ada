use Rattle.std.proofs.Common.{◌<◌, length, arith, refl, None}
use Rattle.std.specs.Vec.{with_item}
use Rattle.room_core.specs.ScannerTables.{scanner_of}
use Rattle.room_core.proofs.ScanPlaces.{row_length, cell_set}
use Rattle.room_core.proofs.scanner_part.ScannerPart.lists.Goals as goal

pub returns-clause-part : goal.returns-clause-part
returns-clause-part c =
    let old = c.args.self.now in
    let l : c.args.gauge < length old.listing.items = omega (arith, old.sized.listing_size, c.requires.gauge_in) in
    let was = c.index_mut-row.result.now in
    let size = row_length old.listing.items old.shape.passes c.args.gauge was old.sized.listing_rows l c.index_mut-row.ensures.value in
    let m : c.args.pass < length was.items = omega (arith, size, c.requires.pass_in) in
    λ d. record (scanner_of old) {
      listing = cell_set old.listing.items c.args.gauge c.args.pass was (with_item was c.args.pass c.args.entry) c.args.entry None l c.index_mut-row.ensures.value m refl d;
    }
