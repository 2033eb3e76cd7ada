use Rattle.room_core.proofs.Laws.{unpacks}
use Rattle.room_core.proofs.theorems.session_words_unpack.Goals as goal

pub returns : goal.returns
returns c = unpacks
