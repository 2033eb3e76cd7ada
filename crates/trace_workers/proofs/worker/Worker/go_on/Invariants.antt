use Rattle.std.proofs.Common.{◌≡◌, List}
use Rattle.trace_file.specs.declared.line.Line.{Line}
use Rattle.trace_workers.specs.Workers.{HasDone, IsSameWorker}
use Rattle.trace_workers.proofs.worker.Worker.go_on.Given as goal

abbrev pub invariant-loop : goal.invariant-loop
invariant-loop g l = record {
  same : IsSameWorker l.initial.self l.self;
  running : l.self.is_stopped ≡ l.initial.self.is_stopped;
  done : (lines : List Line) → HasDone l.broker lines l.initial.self → HasDone l.broker lines l.self;
}
