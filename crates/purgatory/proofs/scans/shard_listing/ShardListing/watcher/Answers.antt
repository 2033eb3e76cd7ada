use Rattle.std.proofs.Common.{arith, subst}
use Rattle.watch_lists.specs.Row.{IsRow}
use Rattle.watch_lists.specs.Watches.{row_of}
use Rattle.purgatory.specs.scans.Desks.{ShardView}
use Rattle.purgatory.proofs.scans.shard_listing.ShardListing.watcher.Goals as goal

pub returns-clause-row : goal.returns-clause-row
returns-clause-row c =
    let key = c.requires in
    let keys = c.self.invariant.keys in
    let row = c.watchers_rise.ensures.rows c.args.key (omega (arith, key, keys)) in
    subst (λ (v : ShardView). IsRow c.args.key v.seat.table.shape.passes (row_of v.watches c.args.key)) c.self.view_is
    (subst (λ n. IsRow c.args.key n (row_of c.self.inside.shard c.args.key)) c.self.invariant.passes row)
