use Rattle.std.proofs.Common.{◌≡◌, ◌≢◌, ◌↔◌, ◌%◌, ◌/◌, List, filter, not, set, ap, sym, ◌∙◌, subst, arith}
use Rattle.watch_lists.specs.declared.watch.Watch.{Watch}
use Rattle.watch_lists.specs.Watches.{Watches, is_of, row_of}
use Rattle.lone_broker.specs.index.Index.{IsWatching}
use Rattle.lone_broker.specs.index.Shelved.{row_at}
use Rattle.lone_broker.proofs.index.Listings.{one_less, replaced_row, row_before, row_changed, shard_keys}
use Rattle.lone_broker.proofs.index.shelves.Shelves.drop_stale.Goals as goal

pub returns-clause-row : goal.returns-clause-row
returns-clause-row c =
    let shards = c.self.inside.shards.items in
    let gauge = c.args.gauge in
    let shard = c.index_mut-shard.result.now in
    let is = c.index_mut-shard.ensures.value in
    let are = c.self.invariant in
    let new = c.drop_stale.new.self in
    let low = c.requires.gauge in
    let keys = shard_keys shards (gauge % 16) shard are (omega arith) is in
    let left = λ (row : List Watch). filter (λ (w : Watch). not (is_of c.args.stale.id c.args.stale.generation w)) row in
    row_changed shards gauge are shard is new ∙ replaced_row shard new (gauge / 16) (left (row_of shard (gauge / 16))) (omega arith) c.drop_stale.ensures.rest
    ∙ ap left (sym (row_before shards gauge are shard is new)) ∙ ap (λ (old : List Watches). left (row_at old gauge)) c.self.view_is

pub returns-clause-listed : goal.returns-clause-listed
returns-clause-listed c = λ g id generation.
    let shards = c.self.inside.shards.items in
    let new = c.drop_stale.new.self in
    subst (λ (old : List Watches). IsWatching (set shards (c.args.gauge % 16) new) g id generation ↔ (IsWatching old g id generation × (g ≡ c.args.gauge → id ≡ c.args.stale.id → generation ≢ c.args.stale.generation))) c.self.view_is
    (one_less shards c.args.gauge c.self.invariant c.index_mut-shard.result.now c.index_mut-shard.ensures.value new c.args.stale.id c.args.stale.generation c.drop_stale.ensures.others g id generation)
