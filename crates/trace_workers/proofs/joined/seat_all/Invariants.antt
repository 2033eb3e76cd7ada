use Rattle.std.proofs.Common.{◌≡◌, ◌++◌, length}
use Rattle.std.specs.Vec.Iter.{into_iter_items, into_iter_len}
use Rattle.trace_workers.proofs.Sessions.{seated}
use Rattle.trace_workers.proofs.joined.seat_all.Given as goal

abbrev pub invariant-loop-pass : goal.invariant-loop-pass
invariant-loop-pass l = record {
  passes_len : into_iter_len l.pass-iterator ≡ length (into_iter_items l.pass-iterator);
  desks_len : into_iter_len l.left ≡ length (into_iter_items l.left);
  same : length (into_iter_items l.left) ≡ length (into_iter_items l.pass-iterator);
  all : l.sessions ++ seated (into_iter_items l.left) (into_iter_items l.pass-iterator) ≡ seated l.fn.desks l.fn.passes;
}
