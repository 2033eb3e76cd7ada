use Rattle.audit.specs.broker.Play.{brought}
use Rattle.lone_broker.proofs.watched.Watched.event.Goals as goal
use Rattle.audit.proofs.Laws.{on_ok}

pub returns-clause-plays : goal.returns-clause-plays
returns-clause-plays c = on_ok c.settle.result c.settle.ensures.rests (λ turns board stands. turns (brought board c.args.line.now) (c.in_ok-bring.ensures.brought board stands))
