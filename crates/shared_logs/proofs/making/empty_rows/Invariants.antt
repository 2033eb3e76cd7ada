use Rattle.std.proofs.Common.{◌≡◌, [], length}
use Rattle.purgatory.specs.Making.{AreFrom}
use Rattle.shared_logs.specs.Dealt.{IsFreshRow}
use Rattle.shared_logs.proofs.making.empty_rows.Given as goal

abbrev pub invariant-loop : goal.invariant-loop
invariant-loop l = record {
  count : length l.rows ≡ l.counter;
  each : AreFrom (IsFreshRow []) 0 l.rows;
}
