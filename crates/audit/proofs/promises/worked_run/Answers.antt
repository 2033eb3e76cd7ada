use Rattle.audit.proofs.WorkedRuns.{with_clock, not_alone, not_unticked}
use Rattle.audit.proofs.promises.worked_run.Goals as goal

pub returns-clause-run : goal.returns-clause-run
returns-clause-run c = with_clock

pub returns-clause-pass : goal.returns-clause-pass
returns-clause-pass c = not_alone

pub returns-clause-tick : goal.returns-clause-tick
returns-clause-tick c = not_unticked
