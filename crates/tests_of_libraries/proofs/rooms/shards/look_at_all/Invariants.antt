use Rattle.tests_of_libraries.specs.Crews.{IsCrewOf}
use Rattle.tests_of_libraries.proofs.rooms.shards.look_at_all.Given as goal

abbrev pub invariant-loop-hand : goal.invariant-loop-hand
invariant-loop-hand l = IsCrewOf l.room l.crew
