use Rattle.trace_file.proofs.OneFault.{first_bad_is_one}
use Rattle.trace_file.proofs.promises.one_first_bad_line.Goals as goal

pub returns : goal.returns
returns c = first_bad_is_one
