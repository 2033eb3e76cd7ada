use Rattle.std.proofs.Common.{◌≡◌, Some, None, get_or, ap, sym, ◌∙◌}
use Rattle.std.specs.Prelude.{slice_get}
use Rattle.std.proofs.lemmas.Option.{slice_get-get_or}
use Rattle.partlog.specs.State.{state_before}
use Rattle.kanswer.specs.Sent.{sent_outcome}
use Rattle.audit.proofs.Laws.{on_ok}
use Rattle.audit.proofs.retelling.ByPoints.{asked_retells, unasked_retells, item_there, none_there}
use Rattle.audit.proofs.retelling.accepting.retell_put.Goals as goal

pub returns : goal.returns
returns c =
    let pasts = c.args.scene.now.pasts.now in
    let points = c.args.scene.now.points.now in
    let point = c.in-Some.point.now in
    let past = get_or pasts c.args.part c.index-scene-part.result in
    let found = c.in-Some.ensures.lookup in
    let at : slice_get points c.args.retold.now.taken ≡ Some point = ap (slice_get points) (sym c.taken.ensures) ∙ item_there points c.taken.result point found.3.0 found.1 in
    let is = c.put-became.ensures.outcome (state_before past point.place) c.before-before.ensures.numbers in
    on_ok c.ask.result c.ask.ensures (λ e. asked_retells pasts points c.args.part (sent_outcome c.args.part c.args.sent.now) c.args.retold.now c.ask.new.self point past c.put-became.result
    at (slice_get-get_or pasts c.args.part c.index-scene-part.result c.requires) is e)

pub returns-in_default : goal.returns-in_default
returns-in_default c =
    let points = c.args.scene.now.points.now in
    let none : slice_get points c.args.retold.now.taken ≡ None = ap (slice_get points) (sym c.taken.ensures) ∙ none_there points c.taken.result c.in_default.ensures.lookup.3 in
    unasked_retells c.args.scene.now.pasts.now points c.args.part (sent_outcome c.args.part c.args.sent.now) c.args.retold.now c.args.retold.now none
