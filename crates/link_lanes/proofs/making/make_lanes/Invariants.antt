use Rattle.std.proofs.Common.{◌≡◌, ◌++◌, length, map}
use Rattle.std.specs.Vec.Iter.{into_iter_items, into_iter_len}
use Rattle.link_lanes.specs.Made.{new_lane, with_fewer_parts}
use Rattle.link_lanes.proofs.making.make_lanes.Given as goal

abbrev pub invariant-loop-server : goal.invariant-loop-server
invariant-loop-server g l = record {
  lanes : l.lanes ≡ map (new_lane l.hall.queue) l.yielded;
  first : l.first ≡ with_fewer_parts (length l.yielded) l.fn.first;
  len : into_iter_len l.server-iterator ≡ length (into_iter_items l.server-iterator);
  whole : l.yielded ++ into_iter_items l.server-iterator ≡ l.fn.servers;
}
