use Rattle.std.proofs.Common.{◌≡◌}
use Rattle.storm.specs.Generator.{state_after}
use Rattle.storm.specs.Lines.{front_lines}
use Rattle.storm.specs.Places.{draws_before}
use Rattle.trace_workers.specs.Workers.{AllRest, HasDone, IsSameWorker}
use Rattle.trace_workers.proofs.worker.Worker.load_lines.Given as goal

abbrev pub invariant-loop-i : goal.invariant-loop-i
invariant-loop-i g l = record {
  same : IsSameWorker l.initial.self l.self;
  running : l.self.is_stopped ≡ l.initial.self.is_stopped;
  drawn : l.frames.state ≡ state_after l.load.seed (draws_before l.i);
  done : HasDone l.broker (front_lines l.load.seed l.load.requests l.i) l.self;
  rests : AllRest l.self;
}
