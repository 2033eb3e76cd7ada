use Rattle.std.proofs.Common.{◌<◌, length, arith}
use Rattle.room_core.specs.CallerTables.{caller_of}
use Rattle.room_core.proofs.Views.{table_set}
use Rattle.room_core.proofs.caller_part.CallerPart.describes.Goals as goal

pub returns-clause-part : goal.returns-clause-part
returns-clause-part c =
    let l : c.args.at < length c.args.self.now.description.items = omega (arith, c.requires, c.args.self.now.whole.description_size) in
    λ d. record (caller_of c.args.self.now) { description = table_set c.args.self.now.description.items c.args.at c.args.word 0 l d }
