use Rattle.trace_file.proofs.OneFault.{trace_has_none}
use Rattle.trace_file.proofs.promises.no_bad_line.Goals as goal

pub returns : goal.returns
returns c = trace_has_none
