use Rattle.std.specs.Prelude.{All}
use Rattle.outside.specs.Wire.{IsNewWire}
use Rattle.tests_of_runs.proofs.lanes.Case.port.Given as goal

abbrev pub invariant-loop-sent : goal.invariant-loop-sent
invariant-loop-sent l = All IsNewWire l.links
