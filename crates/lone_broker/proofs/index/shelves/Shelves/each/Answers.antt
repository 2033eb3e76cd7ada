use Rattle.std.proofs.Common.{◌%◌, ◌/◌, List, ap, sym, ◌∙◌, subst, arith}
use Rattle.std.specs.List.{slice_get}
use Rattle.watch_lists.specs.declared.watch.Watch.{Watch}
use Rattle.watch_lists.specs.Watches.{Watches, row_of}
use Rattle.lone_broker.specs.index.Index.{IsWatching}
use Rattle.lone_broker.specs.index.Shelved.{row_at}
use Rattle.lone_broker.proofs.index.Logic.{IfNone-weaker, IfSome-weaker}
use Rattle.lone_broker.proofs.index.Prefixes.{low_ids}
use Rattle.lone_broker.proofs.index.Listings.{IsWatching-shard, row_at-shard, shard_ids, shard_read}
use Rattle.lone_broker.proofs.index.shelves.Shelves.each.Goals as goal

pub returns-clause-place : goal.returns-clause-place
returns-clause-place c =
    let shards = c.self.inside.shards.items in
    let shard = c.index-shard.result.now in
    let row = row_at-shard shards c.args.gauge shard (shard_read shards c.args.gauge shard c.self.invariant c.index-shard.ensures) in
    c.each.ensures.place ∙ ap (λ (r : List Watch). slice_get r c.args.at) (sym row) ∙ ap (λ (old : List Watches). slice_get (row_at old c.args.gauge) c.args.at) c.self.view_is

pub returns-clause-low : goal.returns-clause-low
returns-clause-low c = low_ids c.each.result (row_of c.index-shard.result.now (c.args.gauge / 16)) c.args.at c.each.ensures.place c.each.ensures.row.rising

pub returns-clause-within : goal.returns-clause-within
returns-clause-within c =
    let ids = shard_ids c.self.inside.shards.items (c.args.gauge % 16) c.index-shard.result.now c.self.invariant (omega arith) c.index-shard.ensures in
    IfSome-weaker c.each.result (λ w h. let l = h.0 in omega arith) c.each.ensures.within

pub returns-clause-watching : goal.returns-clause-watching
returns-clause-watching c =
    let shards = c.self.inside.shards.items in
    let shard = c.index-shard.result.now in
    let is = shard_read shards c.args.gauge shard c.self.invariant c.index-shard.ensures in
    IfSome-weaker c.each.result
    (λ w h. subst (λ (old : List Watches). IsWatching old c.args.gauge w.id w.generation) c.self.view_is ((IsWatching-shard shards c.args.gauge w.id w.generation shard is).1 h.1))
    c.each.ensures.listed

pub returns-clause-all : goal.returns-clause-all
returns-clause-all c =
    let shards = c.self.inside.shards.items in
    let gauge = c.args.gauge in
    let shard = c.index-shard.result.now in
    let is = shard_read shards gauge shard c.self.invariant c.index-shard.ensures in
    let row = sym (row_at-shard shards gauge shard is) ∙ ap (λ (old : List Watches). row_at old gauge) c.self.view_is in
    IfNone-weaker c.each.result
    (λ all id generation h.
    let there = all id generation ((IsWatching-shard shards gauge id generation shard is).0 (subst (λ (old : List Watches). IsWatching old gauge id generation) (sym c.self.view_is) h)) in
    (there.0, there.1, ap (λ (r : List Watch). slice_get r there.0) (sym row) ∙ there.2))
    c.each.ensures.all
