use Rattle.std.proofs.Common.{◌≡◌, ◌+◌, length, subst}
use Rattle.std.specs.Prelude.{OnErr}
use Rattle.crossbeam_queue.specs.Passes.{ruled_capacity, view}
use Rattle.outside.specs.shared.queue.QueueViews.{IsWhole, PassView, QueueView}
use Rattle.outside.proofs.shared.queue.Keeping.{full, learns, puts}
use Rattle.outside.proofs.shared.queue.link_queue.LinkQueue.push.Goals as goal

pub push_as-requires-clause-rule : goal.push_as-requires-clause-rule
push_as-requires-clause-rule g c = (puts g.N.Condition.fits _ _ _ _ c.pass.invariant.1 c.requires.fits, λ items views b at. (learns g.N.Condition.fits _ _ items views b at).0)

pub returns-clause-full : goal.returns-clause-full
returns-clause-full g c =
    let of_views = λ (y : PassView g.row.L.Denot × QueueView). OnErr c.push_as.result (IsWhole y.0 → length y.0.put ≡ length y.0.taken + y.1.capacity) in
    subst of_views (λ i. (c.pass.view_is i, c.self.view_is i)) (full c.push_as.result _ _ _ (view c.pass.inside.seat) (ruled_capacity c.self.inside.ring) c.push_as.ensures.rule)
