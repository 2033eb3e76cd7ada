use Rattle.std.proofs.Common.{◌≡◌, ◌≢◌, ℕ, List, get_or}
use Rattle.trace_file.specs.declared.line.Line.{Line}
use Rattle.trace_workers.specs.Sessions.{SessionView}
use Rattle.trace_workers.specs.Workers.{HasDone, IsSameWorker}
use Rattle.trace_workers.proofs.worker.Worker.go_on_at.Given as goal

abbrev pub invariant-loop : goal.invariant-loop
invariant-loop g l = record {
  same : IsSameWorker l.initial.self l.self;
  running : l.self.is_stopped ≡ l.initial.self.is_stopped;
  done : (lines : List Line) → HasDone l.broker lines l.initial.self → HasDone l.broker lines l.self;
  alone : (k : ℕ) (s : SessionView) → k ≢ l.at → get_or l.self.sessions k s ≡ get_or l.initial.self.sessions k s;
}
