use Rattle.std.proofs.Common.{length}
use Rattle.trace_file.proofs.TextSoFar.{IsReading}
use Rattle.trace_file.proofs.reading.part_lines.Given as goal

abbrev pub invariant-loop-piece : goal.invariant-loop-piece
invariant-loop-piece l = IsReading l.part l.rest l.lines

abbrev pub decreases-loop-piece : goal.decreases-loop-piece
decreases-loop-piece l = length l.rest
