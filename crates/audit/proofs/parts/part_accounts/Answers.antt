use Rattle.std.proofs.Common.{List, [], ◌∷◌, ◌++◌, sym, ap, ◌∙◌}
use Rattle.std.proofs.lemmas.List.{map-append}
use Rattle.audit.specs.declared.account.PartAccount.{PartAccount}
use Rattle.audit.specs.Histories.{part_account}
use Rattle.audit.proofs.parts.part_accounts.Goals as goal

pub loop-part-preserved : goal.loop-part-preserved
loop-part-preserved c =
    c.in_ok-push.ensures.ok ∙ ap (λ (account : PartAccount). c.loop-part.accounts ++ account ∷ []) c.part_account.ensures
    ∙ ap (λ (accounts : List PartAccount). accounts ++ part_account c.in-Some.part ∷ []) c.loop-part.invariant ∙ sym (map-append part_account c.loop-part.yielded (c.in-Some.part ∷ []))
