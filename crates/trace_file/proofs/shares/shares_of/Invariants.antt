use Rattle.std.proofs.Common.{◌≡◌, ◌≤◌, ◌+◌, ◌*◌, ◌++◌, length}
use Rattle.trace_file.specs.Shares.{pieces_in}
use Rattle.trace_file.specs.Trace.{pieces_of}
use Rattle.trace_file.proofs.shares.shares_of.Given as goal

abbrev pub invariant-loop-rest : goal.invariant-loop-rest
invariant-loop-rest l = record {
  pieces : pieces_in l.shares.items ++ pieces_of l.rest ≡ pieces_of l.text;
  few : length l.shares.items * (l.size + 1) + length l.rest ≤ length l.text;
}

abbrev pub decreases-loop-rest : goal.decreases-loop-rest
decreases-loop-rest l = length l.rest
