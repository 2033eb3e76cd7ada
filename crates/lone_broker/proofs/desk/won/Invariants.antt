use Rattle.std.proofs.Common.{◌≡◌, ◌≤◌, count_by, take}
use Rattle.audit.specs.IsLawful.{is_won_by}
use Rattle.lone_broker.proofs.desk.won.Given as goal

abbrev pub invariant-loop-call : goal.invariant-loop-call
invariant-loop-call l = record {
  count : l.count ≡ count_by (is_won_by 0) (take l.call-index l.calls);
  few : l.count ≤ l.call-index;
}
