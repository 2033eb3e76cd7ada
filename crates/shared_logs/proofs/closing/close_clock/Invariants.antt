use Rattle.std.proofs.Common.{◌≡◌, ◌++◌, length, map}
use Rattle.std.specs.Vec.Iter.{into_iter_items, into_iter_len}
use Rattle.shared_logs.specs.declared.hands.Hand.{Hand}
use Rattle.shared_logs.proofs.closing.close_clock.Given as goal

abbrev pub invariant-loop-hand : goal.invariant-loop-hand
invariant-loop-hand l = record {
  len : into_iter_len l.hand-iterator ≡ length (into_iter_items l.hand-iterator);
  all : l.passes ++ map (λ (hand : Hand). hand.clock) (into_iter_items l.hand-iterator) ≡ map (λ (hand : Hand). hand.clock) l.fn.hands;
}
