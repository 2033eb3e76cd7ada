use Rattle.std.proofs.Common.{◌≡◌}
use Rattle.link_lanes.specs.Closed.{keys_of, passes_of, seats_of}
use Rattle.link_lanes.proofs.closing.take_apart.Given as goal

abbrev pub invariant-loop-server : goal.invariant-loop-server
invariant-loop-server g l = record {
  passes : l.parts.passes ≡ passes_of l.yielded;
  seats : l.parts.seats ≡ seats_of l.yielded;
  keys : l.parts.keys ≡ keys_of l.yielded;
}
