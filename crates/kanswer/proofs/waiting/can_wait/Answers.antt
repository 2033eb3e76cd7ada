use Rattle.std.proofs.Common.{◌≡◌, false, List, sym, ap, subst, ◌∙◌}
use Rattle.kwire.specs.declared.request.Request.{Request}
use Rattle.kanswer.specs.declared.accepted.Accepted.{Accepted}
use Rattle.kanswer.specs.MayWait.{may_wait}
use Rattle.kanswer.proofs.Waits.{never_delayed}
use Rattle.kanswer.proofs.waiting.can_wait.Goals as goal

pub returns-clause-never : goal.returns-clause-never
returns-clause-never c = λ no shown same.
    let may : may_wait c.args.request.now.ask c.args.accepted.now ≡ false =
    sym (c.may_wait.ensures ∙ ap (λ (r : Request). may_wait r.ask c.args.accepted.now) c.request.view_is) ∙ no in
    never_delayed c.args.request.now.ask shown (subst (λ (rs : List Accepted). may_wait c.args.request.now.ask rs ≡ false) (sym same) may)
