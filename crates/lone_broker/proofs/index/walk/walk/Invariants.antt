use Rattle.std.proofs.Common.{ℕ, ◌⊎◌, get_or}
use Rattle.lone_broker.specs.index.Sessions.{Has}
use Rattle.lone_broker.specs.index.Index.{IsWatching}
use Rattle.lone_broker.proofs.index.Watchers.{ArePassed, left}
use Rattle.lone_broker.proofs.index.walk.walk.Given as goal

abbrev pub invariant-loop-watch : goal.invariant-loop-watch
invariant-loop-watch l = record {
  fewer : (g id generation : ℕ) → IsWatching l.shelves g id generation → IsWatching l.initial.shelves g id generation;
  kept : (g id : ℕ) → IsWatching l.initial.shelves g id (get_or l.live id 0) → IsWatching l.shelves g id (get_or l.live id 0);
  passed : ArePassed l.shelves l.live l.gauge l.found l.at;
  more : (id : ℕ) → Has l.initial.found id → Has l.found id;
  only : (id : ℕ) → Has l.found id → Has l.initial.found id ⊎ IsWatching l.initial.shelves l.gauge id (get_or l.live id 0);
}

abbrev pub decreases-loop-watch : goal.decreases-loop-watch
decreases-loop-watch l = left l.shelves l.gauge l.at
