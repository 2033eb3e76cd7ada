use Rattle.std.proofs.Common.{◌≡◌, ◌<◌, ◌≤◌, []}
use Rattle.timing_wheel.specs.Timers.{ids_of}
use Rattle.bench_parts.proofs.parts.wheels.Given as goal

abbrev pub invariant-loop-now : goal.invariant-loop-now
invariant-loop-now l = record {
  ids : ids_of l.wheels ≡ l.entries;
  room : l.due.room ≡ l.entries;
  empty : l.due.ids ≡ [];
  within : l.id < l.entries;
  before : l.wheels.moment ≤ l.now;
}
