use Rattle.std.proofs.Common.{◌≡◌}
use Rattle.watch_lists.specs.Watches.{keys_of}
use Rattle.bench_parts.proofs.parts.in_a_shard.Given as goal

abbrev pub invariant-loop-step : goal.invariant-loop-step
invariant-loop-step l = record { keys : keys_of l.shard ≡ 12; ids : l.shard.ids ≡ 80 }
