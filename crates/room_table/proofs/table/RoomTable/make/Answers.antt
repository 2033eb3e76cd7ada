use Rattle.std.proofs.Common.{rules}
use Rattle.room_table.proofs.Starts.{starts}
use Rattle.room_table.proofs.table.RoomTable.make.Goals as goal

pub of_words-requires : goal.of_words-requires
of_words-requires c = starts c.args.shape c.as_slice.result.now c.requires (search rules)
