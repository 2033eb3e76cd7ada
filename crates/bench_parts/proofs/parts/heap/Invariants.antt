use Rattle.std.proofs.Common.{◌≡◌, ◌<◌, length}
use Rattle.bench_parts.proofs.parts.heap.Given as goal

abbrev pub invariant-loop-now : goal.invariant-loop-now
invariant-loop-now l = record { rounds : length l.rounds.items ≡ l.entries; within : l.id < l.entries }
