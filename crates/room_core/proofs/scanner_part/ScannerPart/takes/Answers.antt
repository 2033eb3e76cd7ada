use Rattle.std.proofs.Common.{◌<◌, length, arith, Some, None}
use Rattle.room_core.specs.ScannerTables.{scanner_of}
use Rattle.room_core.proofs.Views.{table_set}
use Rattle.room_core.proofs.scanner_part.ScannerPart.takes.Goals as goal

pub returns-clause-part : goal.returns-clause-part
returns-clause-part c =
    let old = c.args.self.now in
    let l : c.args.gauge < length old.readings.items = omega (arith, old.sized.readings_size, c.requires) in
    λ d. record (scanner_of old) { readings = table_set old.readings.items c.args.gauge (Some c.args.value) None l d }
