use Rattle.std.proofs.Common.{◌∙◌, ap, subst}
use Rattle.watch_lists.specs.Watches.{Watches}
use Rattle.purgatory.specs.scans.Desks.{ShardView}
use Rattle.purgatory.specs.scans.Shelf.{AreAllBelow}
use Rattle.purgatory.proofs.scans.Duties.{all_below}
use Rattle.purgatory.proofs.scans.shard_listing.ShardListing.watchers.Goals as goal

pub returns : goal.returns
returns c =
    subst (λ (w : Watches). AreAllBelow c.args.key c.watchers.result w) (ap (λ (v : ShardView). v.watches) c.self.view_is)
    (all_below c.self.inside.shard c.args.key c.watchers.result c.watchers.ensures)
