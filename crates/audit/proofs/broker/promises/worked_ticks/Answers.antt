use Rattle.std.proofs.Common.{pos, refl, append-nil}
use Rattle.trace_file.specs.PrintedLine.{reply_line}
use Rattle.audit.specs.broker.Worked.{produced_with}
use Rattle.audit.proofs.broker.promises.worked_ticks.Goals as goal

pub returns-clause-stays : goal.returns-clause-stays
returns-clause-stays c all batch = refl

pub returns-clause-leaves : goal.returns-clause-leaves
returns-clause-leaves c all batch = refl

pub returns-clause-expires : goal.returns-clause-expires
returns-clause-expires c all batch = append-nil (reply_line 0 (produced_with (pos 7)))

pub returns-clause-too_few : goal.returns-clause-too_few
returns-clause-too_few c all batch = append-nil (reply_line 0 (produced_with (pos 20)))

pub returns-clause-enough : goal.returns-clause-enough
returns-clause-enough c all batch = append-nil (reply_line 0 (produced_with (pos 0)))
