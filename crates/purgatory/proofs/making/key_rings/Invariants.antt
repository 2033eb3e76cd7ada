use Rattle.std.proofs.Common.{◌≡◌, ◌+◌, List, [], ◌∷◌, ◌++◌, length}
use Rattle.std.specs.Prelude.{All}
use Rattle.purgatory.specs.Rooms.{LockView}
use Rattle.purgatory.specs.Turning.{IsKeyOf, IsKeyring}
use Rattle.purgatory.proofs.making.key_rings.Given as goal

abbrev pub invariant-loop-row : goal.invariant-loop-row
invariant-loop-row l = record {
  same : length l.rows ≡ length l.passes;
  count : length l.rows + length l.keys ≡ length l.fn.rows;
  each : (locks : List LockView) (lock : LockView) → All (IsKeyring locks) l.fn.rows → All (IsKeyOf lock) l.fn.passes
      → All (IsKeyring locks) l.rows × All (IsKeyOf lock) l.passes × All (λ ring. ring ≡ locks ++ lock ∷ []) l.keys;
}

abbrev pub decreases-loop-row : goal.decreases-loop-row
decreases-loop-row l = length l.rows
