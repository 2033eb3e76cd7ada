use Rattle.std.specs.Prelude.{All}
use Rattle.outside.specs.Wire.{IsNewWire}
use Rattle.tell_account.proofs.lanes.links_of.Given as goal

abbrev pub invariant-loop-line : goal.invariant-loop-line
invariant-loop-line l = All IsNewWire l.links
