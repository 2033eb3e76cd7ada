use Rattle.std.proofs.Common.{◌≡◌, ◌≢◌, ◌<◌, ◌≤◌, ℕ, List, true, false, get_or}
use Rattle.trace_file.specs.declared.line.Line.{Line}
use Rattle.trace_workers.specs.Resting.{Rests}
use Rattle.trace_workers.specs.Sessions.{SessionView}
use Rattle.trace_workers.specs.Workers.{HasDone, IsSameWorker}
use Rattle.trace_workers.proofs.worker.Worker.round.Given as goal

abbrev pub invariant-loop-at : goal.invariant-loop-at
invariant-loop-at g l = record {
  same : IsSameWorker l.initial.self l.self;
  running : l.self.is_stopped ≡ l.initial.self.is_stopped;
  done : (lines : List Line) → HasDone l.broker lines l.initial.self → HasDone l.broker lines l.self;
  untouched : (k : ℕ) (s : SessionView) → l.at ≤ k → get_or l.self.sessions k s ≡ get_or l.initial.self.sessions k s;
  moved : l.did ≡ true → (k : ℕ) × (k < l.at) × ((s : SessionView) → get_or l.self.sessions k s ≢ get_or l.initial.self.sessions k s);
  rests : l.did ≡ false → (k : ℕ) (s : SessionView) → k < l.at → Rests (get_or l.self.sessions k s);
}
