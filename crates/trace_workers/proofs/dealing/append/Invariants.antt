use Rattle.std.proofs.Common.{◌≡◌, ◌++◌}
use Rattle.std.specs.Vec.Iter.{into_iter_items}
use Rattle.trace_workers.proofs.dealing.append.Given as goal

abbrev pub invariant-loop-session : goal.invariant-loop-session
invariant-loop-session l = record {
  sessions : l.sessions ≡ l.fn.sessions ++ l.yielded;
  whole : l.yielded ++ into_iter_items l.session-iterator ≡ l.fn.more;
}
