use Rattle.std.proofs.Common.{◌≡◌, ◌+◌, drop}
use Rattle.partlog.specs.in_sync.Steps.{first_late}
use Rattle.partlog.proofs.in_sync.replicas.first_late.Given as goal

abbrev pub invariant-loop-at : goal.invariant-loop-at
invariant-loop-at l = first_late l.log_end l.t 1 l.followers ≡ first_late l.log_end l.t (l.at + 1) (drop l.at l.followers)
