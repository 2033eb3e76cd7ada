use Rattle.std.proofs.Common.{All, subst, sym}
use Rattle.std.proofs.lemmas.List.Elements.{All-push}
use Rattle.outside.specs.Wire.{IsNewWire}
use Rattle.tests_of_runs.proofs.lanes.Case.port.Goals as goal

pub loop-sent-preserved : goal.loop-sent-preserved
loop-sent-preserved c =
    subst (All IsNewWire) (sym c.in_ok-push.ensures.ok) (All-push IsNewWire c.loop-sent.links c.in_ok-link.field-0 c.loop-sent.invariant c.in_ok-link.ensures)
