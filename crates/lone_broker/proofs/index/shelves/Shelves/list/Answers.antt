use Rattle.std.proofs.Common.{◌≡◌, ◌↔◌, ◌⊎◌, ◌%◌, List, get_or, set, subst}
use Rattle.watch_lists.specs.Watches.{Watches}
use Rattle.lone_broker.specs.index.Index.{IsWatching}
use Rattle.lone_broker.proofs.index.Listings.{one_more, no_other}
use Rattle.lone_broker.proofs.index.shelves.Shelves.list.Goals as goal

pub returns-clause-listed : goal.returns-clause-listed
returns-clause-listed c = λ g id.
    let shards = c.self.inside.shards.items in
    let new = c.list_in.new.shard in
    let live = c.args.live.now in
    subst (λ (old : List Watches). IsWatching (set shards (c.args.gauge % 16) new) g id (get_or live id 0) ↔ (IsWatching old g id (get_or live id 0) ⊎ ((g ≡ c.args.gauge) × (id ≡ c.args.session)))) c.self.view_is
    (one_more shards c.args.gauge c.self.invariant c.index_mut-shard.result.now c.index_mut-shard.ensures.value new live c.args.session c.list_in.ensures.listed g id)

pub returns-clause-within : goal.returns-clause-within
returns-clause-within c = λ g id generation h.
    let shards = c.self.inside.shards.items in
    let new = c.list_in.new.shard in
    let live = c.args.live.now in
    subst (λ (old : List Watches). IsWatching old g id generation ⊎ ((id ≡ c.args.session) × (generation ≡ get_or live c.args.session 0))) c.self.view_is
    (no_other shards c.args.gauge c.self.invariant c.index_mut-shard.result.now c.index_mut-shard.ensures.value new c.args.session (get_or live c.args.session 0) c.list_in.ensures.within g id generation h)
