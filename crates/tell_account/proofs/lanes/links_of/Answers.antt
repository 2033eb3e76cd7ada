use Rattle.std.proofs.Common.{All, subst, sym, ◌∙◌}
use Rattle.std.proofs.lemmas.List.Elements.{All-push}
use Rattle.outside.specs.Wire.{IsNewWire}
use Rattle.tell_account.proofs.lanes.links_of.Goals as goal
use Rattle.tell_account.proofs.lanes.links_of.Goals.{in-Feed+in_ok-link_of+in_ok-push, in_default}

pub loop-line-preserved : goal.loop-line-preserved
loop-line-preserved c =
    elim c.match-line.branch [
      | in-Feed+in_ok-link_of+in_ok-push w ↦ subst (All IsNewWire) (sym (w.links-is ∙ w.in_ok-push.ensures.ok))
          (All-push IsNewWire c.loop-line.links w.in_ok-link_of.field-0 c.loop-line.invariant w.in_ok-link_of.ensures)
      | in_default w ↦ subst (All IsNewWire) (sym w.links-is) c.loop-line.invariant
    ]
