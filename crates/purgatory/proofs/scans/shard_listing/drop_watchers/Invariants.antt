use Rattle.std.proofs.Common.{◌≡◌, ◌≢◌, ◌↔◌, ℕ, ◌<◌}
use Rattle.watch_lists.specs.Watches.{IsListed, keys_of}
use Rattle.purgatory.specs.scans.Shelf.{KeepsLower}
use Rattle.purgatory.proofs.scans.shard_listing.drop_watchers.Given as goal

abbrev pub invariant-loop-key : goal.invariant-loop-key
invariant-loop-key l = record {
  ids : l.shard.ids ≡ l.initial.shard.ids;
  keys : keys_of l.shard ≡ 12;
  listed : (k i g : ℕ) → IsListed l.shard k i g ↔ (IsListed l.initial.shard k i g × (k < l.key → i ≡ l.pass → g ≢ l.generation));
  lower : KeepsLower l.pass l.initial.shard l.shard;
}
