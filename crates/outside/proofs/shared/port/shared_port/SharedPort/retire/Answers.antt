use Rattle.std.proofs.Common.{◌∙◌, [], ap, subst, sym}
use Rattle.std.specs.Prelude.{OnErr, OnOk}
use Rattle.turn_lock.specs.Locks.{lock_id}
use Rattle.outside.specs.shared.port.Asked.{HasEntered, HasHandedBack}
use Rattle.outside.specs.shared.port.Keys.{pass_view}
use Rattle.outside.specs.shared.port.PortViews.{PassView, PortView}
use Rattle.outside.proofs.shared.port.Asking.{WasTurn, handed_back, keeps_still, left_alone, was_turn}
use Rattle.outside.proofs.shared.port.shared_port.SharedPort.retire.Goals as goal

pub invariant_of-pass : goal.invariant_of-pass
invariant_of-pass g c =
    let key = c.pass.inside.key in
    let new = c.end.new.pass in
    let found = c.value_mut.result.now in
    let left = c.retire-answer.new.self in
    let of_lock = ap (λ (v : PassView g.row.P-Link.Denot). v.made) c.pass.view_is ∙ c.requires.pass.0 ∙ sym (ap (λ (v : PortView). v.id) c.self.view_is) in
    let turn : WasTurn key new found left =
    was_turn (lock_id c.self.inside.lock) key c.turn-turn.new.pass new c.turn-turn.result.ticket c.turn-turn.result.value found left c.value_mut.ensures.value
    c.turn-turn.ensures.history c.turn-turn.ensures.pass.2 c.end.ensures.seen of_lock c.end.ensures.pass.0.0 c.end.ensures.pass.1 in
    keeps_still c.pass.inside.number key new found left c.pass.invariant turn

pub returns-clause-retired : goal.returns-clause-retired
returns-clause-retired g c =
    let key = c.pass.inside.key in
    let new = c.end.new.pass in
    let found = c.value_mut.result.now in
    let left = c.retire-answer.new.self in
    let of_lock = ap (λ (v : PassView g.row.P-Link.Denot). v.made) c.pass.view_is ∙ c.requires.pass.0 ∙ sym (ap (λ (v : PortView). v.id) c.self.view_is) in
    let turn : WasTurn key new found left =
    was_turn (lock_id c.self.inside.lock) key c.turn-turn.new.pass new c.turn-turn.result.ticket c.turn-turn.result.value found left c.value_mut.ensures.value
    c.turn-turn.ensures.history c.turn-turn.ensures.pass.2 c.end.ensures.seen of_lock c.end.ensures.pass.0.0 c.end.ensures.pass.1 in
    let back = handed_back c.pass.inside.number key new found left c.pass.invariant turn c.args.number c.args.link c.retire-answer.result c.retire-answer.ensures.retired in
    subst (λ (v : PassView g.row.P-Link.Denot). OnOk c.retire-answer.result (HasHandedBack c.args.number c.args.link v (pass_view c.pass.inside.number new))) c.pass.view_is back

pub returns-clause-refused : goal.returns-clause-refused
returns-clause-refused g c =
    let key = c.pass.inside.key in
    let new = c.end.new.pass in
    let found = c.value_mut.result.now in
    let left = c.retire-answer.new.self in
    let of_lock = ap (λ (v : PassView g.row.P-Link.Denot). v.made) c.pass.view_is ∙ c.requires.pass.0 ∙ sym (ap (λ (v : PortView). v.id) c.self.view_is) in
    let turn : WasTurn key new found left =
    was_turn (lock_id c.self.inside.lock) key c.turn-turn.new.pass new c.turn-turn.result.ticket c.turn-turn.result.value found left c.value_mut.ensures.value
    c.turn-turn.ensures.history c.turn-turn.ensures.pass.2 c.end.ensures.seen of_lock c.end.ensures.pass.0.0 c.end.ensures.pass.1 in
    let alone = left_alone c.pass.inside.number key new found left c.pass.invariant turn c.retire-answer.result c.retire-answer.ensures.refused in
    subst (λ (v : PassView g.row.P-Link.Denot). OnErr c.retire-answer.result (HasEntered (λ found. []) v (pass_view c.pass.inside.number new))) c.pass.view_is alone
