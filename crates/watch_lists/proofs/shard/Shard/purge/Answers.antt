use Rattle.std.proofs.Common.{◌≡◌, ◌↔◌, ◌∙◌, ap, sym, subst, arith, get_or, length-set}
use Rattle.watch_lists.specs.Watches.{Watches, IsListed, is_live}
use Rattle.watch_lists.proofs.Rows.{IsRow-filter}
use Rattle.watch_lists.proofs.Shards.{row_ok, row_room, AreRows-set, filtered_so_far, filtered_all, shard_of, sizes-set, size_small}
use Rattle.watch_lists.proofs.Listed.{purged, purge_listed}
use Rattle.watch_lists.proofs.shard.Shard.purge.Goals as goal

-- the count so far is at most the size at the start
pub overflow_add-removed : goal.overflow_add-removed
overflow_add-removed c =
    let i = c.loop-key.invariant in
    let l = c.loop-key-test.true in
    let long = i.long in
    let end = c.len-key-end.ensures in
    let count = i.count in
    let sizes = sizes-set c.loop-key.self-inside.rows.items c.loop-key.key c.index_mut.result.now c.keep_live-removed.new.row c.keep_live-removed.result (omega arith) c.index_mut.ensures.value c.keep_live-removed.ensures.count in
    let small = size_small c.self.inside.ids c.self.inside.rows.items c.self.invariant.0 in
    omega arith

pub loop-key-preserved : goal.loop-key-preserved
loop-key-preserved c =
    let i = c.loop-key.invariant in
    let s = c.loop-key.self-inside in
    let l = c.loop-key-test.true in
    let long = i.long in
    let end = c.len-key-end.ensures in
    let count = i.count in
    let row = row_ok s.ids s.rows.items i.are c.loop-key.key (omega arith) c.index_mut.result.now c.index_mut.ensures.value in
    let room = row_room s.ids s.rows.items i.are c.loop-key.key (omega arith) c.index_mut.result.now c.index_mut.ensures.value in
    let kept = c.keep_live-removed.ensures.room in
    let sizes = sizes-set s.rows.items c.loop-key.key c.index_mut.result.now c.keep_live-removed.new.row c.keep_live-removed.result (omega arith) c.index_mut.ensures.value c.keep_live-removed.ensures.count in
    record {
      are = AreRows-set s.ids s.rows.items c.loop-key.key c.keep_live-removed.new.row i.are (omega arith) (rw c.keep_live-removed.ensures.items (IsRow-filter (is_live c.args.live.now) c.loop-key.key s.ids c.index_mut.result.now.items row)) (omega arith);
      ids = i.ids;
      long = length-set _ _ _ ∙ i.long;
      live = filtered_so_far c.args.live.now s.rows.items c.self.inside.rows.items c.loop-key.key c.index_mut.result.now c.keep_live-removed.new.row (omega arith) i.live c.index_mut.ensures.value i.long c.keep_live-removed.ensures.items;
      count = omega arith;
      kept = i.kept;
    }

pub overflow_cast-removed : goal.overflow_cast-removed
overflow_cast-removed c =
    let count = c.loop-key.invariant.count in
    let small = size_small c.self.inside.ids c.self.inside.rows.items c.self.invariant.0 in
    omega arith

pub returns-clause-live : goal.returns-clause-live
returns-clause-live c =
    let i = c.loop-key.invariant in
    let old = c.self.inside in
    let end = c.loop-key-test.false in
    let many = c.len-key-end.ensures in
    let live = c.args.live.now in
    let rows = filtered_all live c.loop-key.self-inside.rows.items old.rows.items c.loop-key.key (omega arith) i.live in
    let now : shard_of c.loop-key.self-inside.ids c.loop-key.self-inside.rows.items ≡ purged live (shard_of old.ids old.rows.items) =
    λ j. record { ids = i.ids j; rows = rows j } in
    now ∙ ap (purged live) c.self.view_is

pub returns-clause-listed : goal.returns-clause-listed
returns-clause-listed c = λ k i g.
    subst (λ (w : Watches). IsListed w k i g ↔ (IsListed c.args.self.now k i g × (g ≡ get_or c.args.live.now i 0))) (sym (returns-clause-live c))
    (purge_listed c.args.live.now c.args.self.now k i g)
