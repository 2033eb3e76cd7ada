use Rattle.std.proofs.Common.{◌<◌, length, arith, None}
use Rattle.room_core.specs.ScannerTables.{scanner_of}
use Rattle.room_core.proofs.Views.{table_set}
use Rattle.room_core.proofs.scanner_part.ScannerPart.lets_go.Goals as goal

pub returns-clause-part : goal.returns-clause-part
returns-clause-part c =
    let old = c.args.self.now in
    let l : c.args.pass < length old.duties.items = omega (arith, old.sized.duties_size, c.requires) in
    λ d. record (scanner_of old) {
      duties = table_set old.duties.items c.args.pass None None l d;
      meeting = None;
      learned = c.forget.ensures.forgotten d;
      readings = c.forget-2.ensures.forgotten d;
    }
