use Rattle.trace_file.proofs.ReadBack.{line_back}
use Rattle.trace_file.proofs.promises.read_back.Goals as goal

pub returns : goal.returns
returns c = line_back
