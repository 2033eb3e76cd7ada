use Rattle.std.proofs.Common.{◌≡◌, ℕ, ◌<◌, ◌≤◌, [], Vec, Global, length, get_or, vec_capacity}
use Rattle.watch_lists.specs.declared.watch.Watch.{Watch}
use Rattle.watch_lists.proofs.shard.Shard.new.Given as goal

abbrev pub invariant-loop-key : goal.invariant-loop-key
invariant-loop-key l = record {
  long : length l.rows.items ≡ l._key;
  none : (k : ℕ) (d : Vec Watch Global) → k < length l.rows.items → (get_or l.rows.items k d).items ≡ [];
  room : (k : ℕ) (d : Vec Watch Global) → k < length l.rows.items → l.ids ≤ vec_capacity (get_or l.rows.items k d);
}
