use Rattle.std.proofs.Common.{ap, sym, subst, ◌∙◌}
use Rattle.partlog.specs.in_sync.Steps.{first_late}
use Rattle.partlog.proofs.in_sync.Kept.{kept-late}
use Rattle.partlog.proofs.in_sync.Late.{IsLeast, IsNobody, lagging-found, lagging-none}
use Rattle.partlog.proofs.in_sync.replicas.InSync.lagging.Goals as goal

pub returns-clause-found : goal.returns-clause-found
returns-clause-found c = λ followers events stands.
    subst (IsLeast followers events c.args.t) (sym (c.first_late.ensures ∙ ap (first_late c.self.inside.log_end c.args.t 1) c.as_slice.ensures.value
    ∙ kept-late followers events c.self.inside.log_end c.self.inside.high_watermark c.self.inside.followers.items (c.self.view_is ∙ stands) c.args.t))
    (lagging-found followers events c.args.t)

pub returns-clause-none : goal.returns-clause-none
returns-clause-none c = λ followers events stands.
    subst (IsNobody followers events c.args.t) (sym (c.first_late.ensures ∙ ap (first_late c.self.inside.log_end c.args.t 1) c.as_slice.ensures.value
    ∙ kept-late followers events c.self.inside.log_end c.self.inside.high_watermark c.self.inside.followers.items (c.self.view_is ∙ stands) c.args.t))
    (lagging-none followers events c.args.t)
