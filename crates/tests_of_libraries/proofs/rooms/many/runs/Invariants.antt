use Rattle.tests_of_libraries.specs.Crews.{IsCrewOf}
use Rattle.tests_of_libraries.proofs.rooms.many.runs.Given as goal

abbrev pub invariant-loop-value : goal.invariant-loop-value
invariant-loop-value g l = IsCrewOf l.room l.crew
