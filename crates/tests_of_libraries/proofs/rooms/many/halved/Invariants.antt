use Rattle.std.proofs.Common.{length}
use Rattle.std.specs.Prelude.{All}
use Rattle.tests_of_libraries.specs.Crews.{IsCrewOf}
use Rattle.tests_of_libraries.proofs.rooms.many.halved.Given as goal

abbrev pub invariant-loop-crew : goal.invariant-loop-crew
invariant-loop-crew l = record {
  left : All (IsCrewOf l.room) l.crews.items;
  more : All (IsCrewOf l.room) l.more.items;
}

abbrev pub decreases-loop-crew : goal.decreases-loop-crew
decreases-loop-crew l = length l.crews.items
