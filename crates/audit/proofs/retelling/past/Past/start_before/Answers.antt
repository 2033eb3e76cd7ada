use Rattle.std.proofs.Common.{ap, subst, ◌∙◌}
use Rattle.partlog.specs.History.{History}
use Rattle.partlog.specs.Kept.{IsKept}
use Rattle.partlog.specs.Start.{start_of}
use Rattle.partlog.specs.State.{state_of}
use Rattle.audit.proofs.retelling.Befores.{start_stays}
use Rattle.audit.proofs.retelling.past.Past.start_before.Goals as goal

pub returns : goal.returns
returns c =
    let kept = subst (λ (h : History). IsKept h.log h.events) c.self.view_is c.locate.ensures.kept in
    c.locate.ensures.start ∙ ap (λ (h : History). start_of c.args.offset (state_of h)) c.self.view_is ∙ start_stays c.args.self.now c.args.place c.args.offset kept c.requires
