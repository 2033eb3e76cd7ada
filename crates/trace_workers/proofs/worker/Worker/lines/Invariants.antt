use Rattle.std.proofs.Common.{◌≡◌, take}
use Rattle.trace_workers.specs.Workers.{AllRest, HasDone, IsSameWorker}
use Rattle.trace_workers.proofs.worker.Worker.lines.Given as goal

abbrev pub invariant-loop-at : goal.invariant-loop-at
invariant-loop-at g l = record {
  same : IsSameWorker l.initial.self l.self;
  running : l.self.is_stopped ≡ l.initial.self.is_stopped;
  done : HasDone l.broker (take l.at l.lines) l.self;
  rests : AllRest l.self;
}
