use Rattle.std.proofs.Common.{◌≡◌}
use Rattle.link_lanes.proofs.closing.close_broker.Given as goal

abbrev pub invariant-loop : goal.invariant-loop
invariant-loop g l = record {
  broker : l.broker ≡ l.fn.broker;
  passes : l.passes ≡ l.fn.passes;
}
