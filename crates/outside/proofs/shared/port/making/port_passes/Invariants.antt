use Rattle.std.proofs.Common.{◌≡◌, ◌+◌, length}
use Rattle.std.specs.Vec.Iter.{into_iter_items, into_iter_len}
use Rattle.atomic_table.specs.Seated.{TableId}
use Rattle.outside.specs.shared.port.Fresh.{fresh_passes}
use Rattle.outside.specs.shared.port.History.{Terms}
use Rattle.outside.specs.shared.port.Keys.{AreFreshFrom}
use Rattle.outside.proofs.shared.port.making.port_passes.Given as goal

abbrev pub invariant-loop-key : goal.invariant-loop-key
invariant-loop-key g l = record {
  len : into_iter_len l.key-iterator ≡ length (into_iter_items l.key-iterator);
  count : length l.passes + length (into_iter_items l.key-iterator) ≡ length l.fn.keys;
  each : (id : TableId) (terms : Terms) → AreFreshFrom id terms 0 l.fn.keys → AreFreshFrom id terms (length l.passes) (into_iter_items l.key-iterator) × (l.passes ≡ fresh_passes id terms (length l.passes));
}
