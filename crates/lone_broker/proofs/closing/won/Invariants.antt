use Rattle.std.proofs.Common.{◌≡◌, ◌≤◌, ◌*◌, sum_by, take}
use Rattle.audit.specs.declared.account.TheConstants.{MOST_CALLS}
use Rattle.lone_broker.proofs.Closings.{won_in}
use Rattle.lone_broker.proofs.closing.won.Given as goal

abbrev pub invariant-loop-desk : goal.invariant-loop-desk
invariant-loop-desk l = record {
  count : l.count ≡ sum_by won_in (take l.desk-index l.desks);
  few : l.count ≤ l.desk-index * MOST_CALLS;
}
