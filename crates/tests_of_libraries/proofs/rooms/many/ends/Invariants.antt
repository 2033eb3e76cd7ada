use Rattle.tests_of_libraries.specs.Crews.{IsCrewOf}
use Rattle.tests_of_libraries.proofs.rooms.many.ends.Given as goal

abbrev pub invariant-loop : goal.invariant-loop
invariant-loop g l = IsCrewOf l.room l.crew
