use Rattle.std.proofs.Common.{take}
use Rattle.lone_broker.specs.Telling.{AreToldOf, IsWarned, StayWatched}
use Rattle.lone_broker.proofs.watched.tell.Given as goal

abbrev pub invariant-loop-point : goal.invariant-loop-point
invariant-loop-point l = record {
  told : AreToldOf l.parts (take l.point-index l.points) l.fn.told l.told;
  warned : IsWarned l.fn.waiters l.waiters;
  watched : StayWatched l.fn.waiters l.fn.told l.waiters l.told;
}
