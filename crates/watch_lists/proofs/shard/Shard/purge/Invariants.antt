use Rattle.std.proofs.Common.{◌≡◌, ◌+◌, ◌++◌, filter, length, map, take, drop, sum_by}
use Rattle.watch_lists.specs.Watches.{is_live}
use Rattle.watch_lists.specs.Rows.{AreRows}
use Rattle.watch_lists.proofs.Shards.{lists_of}
use Rattle.watch_lists.proofs.shard.Shard.purge.Given as goal

abbrev pub invariant-loop-key : goal.invariant-loop-key
invariant-loop-key l = record {
  are : AreRows l.self-inside.ids l.self-inside.rows.items;
  ids : l.self-inside.ids ≡ l.initial.self-inside.ids;
  long : length l.self-inside.rows.items ≡ length l.initial.self-inside.rows.items;
  live : lists_of l.self-inside.rows.items ≡ map (filter (is_live l.live)) (take l.key (lists_of l.initial.self-inside.rows.items)) ++ drop l.key (lists_of l.initial.self-inside.rows.items);
  count : l.removed + sum_by (λ row. length row.items) l.self-inside.rows.items ≡ sum_by (λ row. length row.items) l.initial.self-inside.rows.items;
  kept : l.self-inside.count ≡ l.initial.self-inside.count;
}
