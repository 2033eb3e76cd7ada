use Rattle.std.proofs.Common.{◌∙◌, ap, subst, sym}
use Rattle.turn_lock.specs.Locks.{lock_id}
use Rattle.outside.specs.shared.port.Asked.{HasEntered, open_entries}
use Rattle.outside.specs.shared.port.Keys.{pass_view}
use Rattle.outside.specs.shared.port.PortViews.{PassView, PortView}
use Rattle.outside.proofs.shared.port.Asking.{WasTurn, has_entered, keeps_still, was_turn}
use Rattle.outside.proofs.shared.port.shared_port.SharedPort.open.Goals as goal

pub invariant_of-pass : goal.invariant_of-pass
invariant_of-pass g c =
    let key = c.pass.inside.key in
    let new = c.end.new.pass in
    let found = c.value_mut.result.now in
    let left = c.open-answer.new.self in
    let of_lock = ap (λ (v : PassView g.row.P-Link.Denot). v.made) c.pass.view_is ∙ c.requires.pass.0 ∙ sym (ap (λ (v : PortView). v.id) c.self.view_is) in
    let turn : WasTurn key new found left =
    was_turn (lock_id c.self.inside.lock) key c.turn-turn.new.pass new c.turn-turn.result.ticket c.turn-turn.result.value found left c.value_mut.ensures.value
    c.turn-turn.ensures.history c.turn-turn.ensures.pass.2 c.end.ensures.seen of_lock c.end.ensures.pass.0.0 c.end.ensures.pass.1 in
    keeps_still c.pass.inside.number key new found left c.pass.invariant turn

pub returns : goal.returns
returns g c =
    let key = c.pass.inside.key in
    let new = c.end.new.pass in
    let found = c.value_mut.result.now in
    let left = c.open-answer.new.self in
    let of_lock = ap (λ (v : PassView g.row.P-Link.Denot). v.made) c.pass.view_is ∙ c.requires.pass.0 ∙ sym (ap (λ (v : PortView). v.id) c.self.view_is) in
    let turn : WasTurn key new found left =
    was_turn (lock_id c.self.inside.lock) key c.turn-turn.new.pass new c.turn-turn.result.ticket c.turn-turn.result.value found left c.value_mut.ensures.value
    c.turn-turn.ensures.history c.turn-turn.ensures.pass.2 c.end.ensures.seen of_lock c.end.ensures.pass.0.0 c.end.ensures.pass.1 in
    let entered = has_entered c.pass.inside.number key new found left c.pass.invariant turn (λ found. open_entries c.open-answer.result c.pass.inside.number c.args.number) c.open-answer.ensures.entered in
    record { entered = subst (λ (v : PassView g.row.P-Link.Denot). HasEntered (λ found. open_entries c.open-answer.result v.number c.args.number) v (pass_view c.pass.inside.number new)) c.pass.view_is entered }
