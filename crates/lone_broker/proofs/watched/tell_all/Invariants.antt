use Rattle.lone_broker.specs.Telling.{IsWarned, StayWatched}
use Rattle.lone_broker.proofs.Telling.{AreToldBelow}
use Rattle.lone_broker.proofs.watched.tell_all.Given as goal

abbrev pub invariant-loop-part : goal.invariant-loop-part
invariant-loop-part l = record {
  told : AreToldBelow l.parts l.part l.told;
  warned : IsWarned l.fn.waiters l.waiters;
  watched : StayWatched l.fn.waiters l.fn.told l.waiters l.told;
}
