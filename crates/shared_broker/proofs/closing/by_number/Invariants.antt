use Rattle.std.proofs.Common.{◌≡◌, ◌++◌, List, length}
use Rattle.std.specs.Prelude.{All}
use Rattle.std.specs.Vec.Iter.{into_iter_items, into_iter_len}
use Rattle.shared_broker.specs.declared.closing.Sheet.{Sheet}
use Rattle.shared_broker.specs.Closed.{IsPutFrom}
use Rattle.shared_broker.proofs.closing.by_number.Given as goal

abbrev pub invariant-loop-sheet : goal.invariant-loop-sheet
invariant-loop-sheet l = record {
  len : into_iter_len l.sheet-iterator ≡ length (into_iter_items l.sheet-iterator);
  size : length l.passes ≡ length l.fn.sheets;
  put : (done : List Sheet) × All (IsPutFrom l.passes) done × (done ++ into_iter_items l.sheet-iterator ≡ l.fn.sheets);
}
