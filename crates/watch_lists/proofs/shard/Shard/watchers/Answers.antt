use Rattle.std.proofs.Common.{arith}
use Rattle.watch_lists.proofs.Shards.{key_within, row_counts, size_small}
use Rattle.watch_lists.proofs.shard.Shard.watchers.Goals as goal

pub overflow_cast-result : goal.overflow_cast-result
overflow_cast-result c =
    let s = c.self.inside in
    let l = key_within s.ids s.rows.items c.args.self.now c.args.key c.self.view_is c.requires in
    let least = row_counts s.rows.items c.args.key c.index.result.now l c.index.ensures in
    let small = size_small s.ids s.rows.items c.self.invariant.0 in
    let is = c.len.ensures in
    omega (arith, least, small, is)
