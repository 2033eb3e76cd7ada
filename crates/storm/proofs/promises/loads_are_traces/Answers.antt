use Rattle.storm.proofs.Texts.{load_is_trace}
use Rattle.storm.proofs.promises.loads_are_traces.Goals as goal

pub returns : goal.returns
returns c = load_is_trace c.read_back.ensures
