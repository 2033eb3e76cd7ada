use Rattle.std.proofs.Common.{◌≡◌}
use Rattle.shared_logs.specs.Shrinking.{HasShrunk}
use Rattle.shared_logs.proofs.Shrinking.{NoneBelow}
use Rattle.shared_logs.proofs.logs.SharedLogs.shrink_parts.Given as goal

abbrev pub invariant-loop-at : goal.invariant-loop-at
invariant-loop-at g l = record {
  made : l.pass.made ≡ l.self;
  shrunk : HasShrunk l.t l.fn.pass l.pass;
  none : NoneBelow l.at l.t l.pass;
}
