use Rattle.lone_broker.specs.Kept.{TurnsBy}
use Rattle.lone_broker.specs.Watching.{IsWatched}
use Rattle.audit.proofs.broker.Laws.{work_on}
use Rattle.lone_broker.proofs.Turning.{Comes}
use Rattle.lone_broker.proofs.watched.Watched.settle.Given as goal

abbrev pub invariant-loop-self : goal.invariant-loop-self
invariant-loop-self l = record {
  comes : TurnsBy Comes l.fn.self.engine l.self.engine l.fn.out l.out;
  watched : IsWatched l.self;
}

abbrev pub decreases-loop-self : goal.decreases-loop-self
decreases-loop-self l = work_on l.self.engine.board.seats
