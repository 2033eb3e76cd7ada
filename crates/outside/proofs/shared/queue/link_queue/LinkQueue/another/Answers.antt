use Rattle.std.proofs.Common.{◌<◌, subst, sym}
use Rattle.outside.specs.shared.queue.QueueViews.{PassView}
use Rattle.outside.proofs.shared.queue.Keeping.{forks}
use Rattle.outside.proofs.shared.queue.link_queue.LinkQueue.another.Goals as goal

pub another-seat-requires-clause-rule : goal.another-seat-requires-clause-rule
another-seat-requires-clause-rule g c =
    let two = subst (λ (v : PassView g.row.L.Denot). 1 < v.parts) (sym c.pass.view_is) c.requires.parts in
    forks g.N.Condition.fits _ _ two
