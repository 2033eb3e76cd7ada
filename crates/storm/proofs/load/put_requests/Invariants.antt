use Rattle.storm.proofs.Fronts.{IsBefore}
use Rattle.storm.proofs.load.put_requests.Given as goal

abbrev pub invariant-loop-i : goal.invariant-loop-i
invariant-loop-i l = IsBefore l.fn.seed l.fn.n l.fn.lines l.i l.lines l.frames.state
