use Rattle.std.proofs.Common.{length, List, ap, ◌∙◌, arith, get_or}
use Rattle.audit.specs.declared.account.PartAccount.{PartAccount}
use Rattle.audit.specs.Histories.{history_of}
use Rattle.audit.specs.retelling.Playable.{IsPlayable}
use Rattle.audit.proofs.retelling.LawfulParts.{all_playable, parts_long, at_place}
use Rattle.audit.proofs.retelling.ByPoints.{item_there}
use Rattle.audit.proofs.retelling.past.pasts_of.Goals as goal

pub of-requires : goal.of-requires
of-requires c =
    let account = c.args.account.now in
    let parts = account.parts in
    let i = c.loop-part.part-index in
    let part = c.part-item.result in
    let items = c.as_slice-part-items.ensures in
    let few = all_playable account c.requires (omega (arith, parts_long account c.requires.logs, c.parts.ensures.count, c.parts.ensures.few)) in
    at_place (λ (p : PartAccount). IsPlayable (history_of p)) parts i part few
    (item_there parts i part (omega (arith, c.loop-part-test.true, ap length items)) (c.part-item.is ∙ ap (λ (xs : List PartAccount). get_or xs i part) items))
