use Rattle.std.proofs.Common.{◌≡◌, ◌++◌, length}
use Rattle.std.specs.List.{flat_map}
use Rattle.std.specs.Prelude.{All}
use Rattle.std.specs.Vec.Iter.{into_iter_items, into_iter_len}
use Rattle.trace_workers.specs.Gathered.{IsRunning, first_clock, sessions_in}
use Rattle.trace_workers.proofs.dealing.gather_all.Given as goal

abbrev pub invariant-loop-worker : goal.invariant-loop-worker
invariant-loop-worker l = record {
  running : All IsRunning l.yielded;
  sessions : l.gathered.sessions ≡ flat_map sessions_in l.yielded;
  clock : l.gathered.clock ≡ first_clock l.yielded;
  len : into_iter_len l.worker-iterator ≡ length (into_iter_items l.worker-iterator);
  whole : l.yielded ++ into_iter_items l.worker-iterator ≡ l.fn.workers;
}
