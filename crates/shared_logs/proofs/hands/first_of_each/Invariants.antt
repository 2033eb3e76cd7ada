use Rattle.std.proofs.Common.{◌≡◌, List, ◌++◌, ◌<◌, length}
use Rattle.std.specs.Prelude.{All}
use Rattle.std.specs.Vec.Iter.{into_iter_items, into_iter_len}
use Rattle.shared_logs.specs.declared.hands.Hand.{Hand}
use Rattle.shared_logs.specs.Apart.{AreRests}
use Rattle.shared_logs.proofs.hands.first_of_each.Given as goal

abbrev pub invariant-loop-hand : goal.invariant-loop-hand
invariant-loop-hand l = record {
  len : into_iter_len l.hand-iterator ≡ length (into_iter_items l.hand-iterator);
  some : All (λ (hand : Hand). 0 < length hand.parts.items) (into_iter_items l.hand-iterator);
  apart : (done : List Hand) × AreRests done l.firsts l.rest × (done ++ into_iter_items l.hand-iterator ≡ l.fn.hands);
}
