use Rattle.std.proofs.Common.{◌≡◌, ◌++◌, All, false, length, map}
use Rattle.std.specs.Vec.Iter.{into_iter_items, into_iter_len}
use Rattle.link_lanes.specs.Gathered.{with_all}
use Rattle.link_lanes.proofs.gathering.gather.Given as goal

abbrev pub invariant-loop-lane : goal.invariant-loop-lane
invariant-loop-lane g l = record {
  running : All (λ lane. lane.is_stopped ≡ false) l.yielded;
  servers : l.servers ≡ map (λ lane. lane.server) l.yielded;
  first : l.first ≡ with_all l.fn.first l.yielded;
  len : into_iter_len l.lane-iterator ≡ length (into_iter_items l.lane-iterator);
  whole : l.yielded ++ into_iter_items l.lane-iterator ≡ l.fn.lanes;
}
