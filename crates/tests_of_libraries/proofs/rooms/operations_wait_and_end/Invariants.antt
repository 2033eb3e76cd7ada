use Rattle.tests_of_libraries.specs.Crews.{IsCrewOf}
use Rattle.tests_of_libraries.proofs.rooms.operations_wait_and_end.Given as goal

abbrev pub invariant-loop-case : goal.invariant-loop-case
invariant-loop-case g l = IsCrewOf l.room l.crew
