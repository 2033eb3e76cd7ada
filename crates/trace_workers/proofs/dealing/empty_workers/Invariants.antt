use Rattle.std.proofs.Common.{◌≡◌, map}
use Rattle.std.specs.List.{range_with_len}
use Rattle.trace_workers.specs.Dealing.{empty_worker}
use Rattle.trace_workers.proofs.dealing.empty_workers.Given as goal

abbrev pub invariant-loop-number : goal.invariant-loop-number
invariant-loop-number l = l.workers ≡ map (empty_worker l.worker_count) (range_with_len 0 l.number)
