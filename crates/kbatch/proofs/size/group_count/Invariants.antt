use Rattle.std.proofs.Common.{◌≡◌, ◌≤◌, ◌+◌, ◌-◌, length}
use Rattle.kbytes.specs.Field.{groups}
use Rattle.kbatch.proofs.size.group_count.Given as goal

abbrev pub invariant-loop : goal.invariant-loop
invariant-loop l = record {
  so_far : l.count + length (groups (l.more - l.counter) l.rest) ≡ 1 + length (groups l.more l.number);
  few : l.count ≤ l.counter + 1;
}
