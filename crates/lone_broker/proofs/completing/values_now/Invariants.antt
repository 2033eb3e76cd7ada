use Rattle.std.proofs.Common.{◌≡◌, length, map, take}
use Rattle.audit.specs.broker.Board.{gauge_now}
use Rattle.lone_broker.proofs.completing.values_now.Given as goal

abbrev pub invariant-loop-at : goal.invariant-loop-at
invariant-loop-at l = record {
  size : length l.values ≡ 64;
  values : take l.at l.values ≡ map (gauge_now l.parts) (take l.at l.op.needs);
}
