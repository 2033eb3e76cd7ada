use Rattle.std.proofs.Common.{◌<◌, length, arith, Some, None}
use Rattle.room_core.specs.ScannerTables.{scanner_of}
use Rattle.room_core.proofs.Views.{table_set}
use Rattle.room_core.proofs.scanner_part.ScannerPart.learns.Goals as goal

pub returns-clause-part : goal.returns-clause-part
returns-clause-part c =
    let l : c.args.at < length c.args.self.now.learned.items = omega (arith, c.args.self.now.sized.learned_size) in
    λ d. record (scanner_of c.args.self.now) {
      learned = table_set c.args.self.now.learned.items c.args.at (Some c.args.word) None l d;
    }
