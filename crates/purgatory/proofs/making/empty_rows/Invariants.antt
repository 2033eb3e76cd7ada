use Rattle.std.proofs.Common.{◌≡◌, [], length}
use Rattle.std.specs.Prelude.{All}
use Rattle.purgatory.specs.Turning.{IsKeyring}
use Rattle.purgatory.proofs.making.empty_rows.Given as goal

abbrev pub invariant-loop : goal.invariant-loop
invariant-loop l = record {
  count : length l.rows ≡ l.counter;
  each : All (IsKeyring []) l.rows;
}
