use Rattle.std.proofs.Common.{length}
use Rattle.partlog.specs.Shrunk.{late_at}
use Rattle.partlog.proofs.Shrinking.{IsShrinking}
use Rattle.partlog.proofs.part_log.PartLog.shrink_all.Given as goal

abbrev pub invariant-loop : goal.invariant-loop
invariant-loop l = IsShrinking l.fn.self l.self l.by l.t

abbrev pub decreases-loop : goal.decreases-loop
decreases-loop l = length (late_at l.self l.t)
