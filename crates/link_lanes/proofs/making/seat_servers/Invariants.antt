use Rattle.std.proofs.Common.{◌≡◌, ◌++◌, length}
use Rattle.std.specs.Vec.Iter.{into_iter_items, into_iter_len}
use Rattle.link_lanes.specs.Made.{seated}
use Rattle.link_lanes.proofs.making.seat_servers.Given as goal

abbrev pub invariant-loop-pass : goal.invariant-loop-pass
invariant-loop-pass g l = record {
  passes_len : into_iter_len l.pass-iterator ≡ length (into_iter_items l.pass-iterator);
  seats_len : into_iter_len l.seats_left ≡ length (into_iter_items l.seats_left);
  keys_len : into_iter_len l.keys_left ≡ length (into_iter_items l.keys_left);
  seats_same : length (into_iter_items l.seats_left) ≡ length (into_iter_items l.pass-iterator);
  keys_same : length (into_iter_items l.keys_left) ≡ length (into_iter_items l.pass-iterator);
  all : l.servers ++ seated (into_iter_items l.pass-iterator) (into_iter_items l.seats_left) (into_iter_items l.keys_left) ≡ seated l.fn.passes l.fn.seats l.fn.keys;
}
