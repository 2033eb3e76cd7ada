use Rattle.std.proofs.Common.{◌≡◌, ◌++◌, List, length}
use Rattle.std.specs.Vec.Iter.{into_iter_items, into_iter_len}
use Rattle.outside.specs.shared.clock.ClockViews.{PassView}
use Rattle.outside.specs.shared.clock.Keys.{AreKeysOf}
use Rattle.outside.proofs.shared.clock.making.keys_of.Given as goal

abbrev pub invariant-loop-pass : goal.invariant-loop-pass
invariant-loop-pass g l = record {
  len : into_iter_len l.pass-iterator ≡ length (into_iter_items l.pass-iterator);
  done : List PassView;
  all : l.fn.passes ≡ done ++ into_iter_items l.pass-iterator;
  keys_are : AreKeysOf done l.keys;
}
