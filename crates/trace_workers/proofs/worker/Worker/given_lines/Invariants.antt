use Rattle.std.proofs.Common.{◌≡◌, ◌++◌, length}
use Rattle.std.specs.Vec.Iter.{into_iter_items, into_iter_len}
use Rattle.trace_workers.specs.Workers.{AllRest, HasDone, IsSameWorker}
use Rattle.trace_workers.proofs.worker.Worker.given_lines.Given as goal

abbrev pub invariant-loop-line : goal.invariant-loop-line
invariant-loop-line g l = record {
  at : l.at ≡ length l.yielded;
  len : into_iter_len l.line-iterator ≡ length (into_iter_items l.line-iterator);
  whole : l.yielded ++ into_iter_items l.line-iterator ≡ l.fn.lines;
  same : IsSameWorker l.initial.self l.self;
  running : l.self.is_stopped ≡ l.initial.self.is_stopped;
  done : HasDone l.broker l.yielded l.self;
  rests : AllRest l.self;
}
