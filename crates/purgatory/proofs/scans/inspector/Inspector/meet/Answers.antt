use Rattle.room_table.proofs.Laws.{session_small}
use Rattle.purgatory.proofs.scans.inspector.Inspector.meet.Goals as goal

pub unpacked-requires : goal.unpacked-requires
unpacked-requires c = session_small c.meet.result c.meet.ensures.word
