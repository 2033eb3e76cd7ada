use Rattle.lone_broker.proofs.index.Bits.{none_has}
use Rattle.lone_broker.proofs.index.session_set.SessionSet.none.Goals as goal

pub returns : goal.returns
returns c = none_has
