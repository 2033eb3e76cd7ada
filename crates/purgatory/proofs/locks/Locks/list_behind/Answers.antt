use Rattle.std.proofs.Common.{◌∙◌, List, subst, sym}
use Rattle.purgatory.specs.Rooms.{AreNamed, LockView}
use Rattle.purgatory.proofs.Doors.{shard_belongs, shard_named, shard_turned}
use Rattle.purgatory.proofs.locks.Locks.list_behind.Goals as goal

pub list_shard-requires-clause-key : goal.list_shard-requires-clause-key
list_shard-requires-clause-key g c =
    let locks = c.self.inside in
    let keys = c.keys.inside in
    let same = c.keys.view_is ∙ c.requires.keys ∙ sym c.self.view_is in
    let named = subst (λ (xs : List LockView). AreNamed c.args.table.now xs) (sym c.self.view_is) c.requires.room.named in
    shard_belongs c.args.table.now locks.shards.items locks.clock keys.shards.items keys.clock same c.self.invariant named c.keys.invariant c.args.k c.index.result.now c.index_mut.result.now
    c.requires.there c.index.ensures c.index_mut.ensures.value

pub list_shard-requires-clause-name : goal.list_shard-requires-clause-name
list_shard-requires-clause-name g c =
    let locks = c.self.inside in
    let named = subst (λ (xs : List LockView). AreNamed c.args.table.now xs) (sym c.self.view_is) c.requires.room.named in
    (c.args.k, shard_named c.args.table.now locks.shards.items locks.clock c.self.invariant named c.args.k c.index.result.now c.requires.there c.index.ensures)

pub returns : goal.returns
returns g c =
    let locks = c.self.inside in
    let keys = c.keys.inside in
    let same = c.keys.view_is ∙ c.requires.keys ∙ sym c.self.view_is in
    let named = subst (λ (xs : List LockView). AreNamed c.args.table.now xs) (sym c.self.view_is) c.requires.room.named in
    (shard_turned c.args.table.now locks.shards.items locks.clock keys.shards.items keys.clock same c.self.invariant named c.keys.invariant c.args.k c.index.result.now c.index_mut.result.now c.list_shard.new.key
    c.requires.there c.index.ensures c.index_mut.ensures.value c.list_shard.ensures).0 ∙ c.keys.view_is
