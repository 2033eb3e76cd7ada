use Rattle.std.proofs.Common.{◌∙◌, ap, subst, sym}
use Rattle.turn_lock.specs.Locks.{lock_id}
use Rattle.outside.specs.shared.clock.Asked.{HasSeen, WasTold}
use Rattle.outside.specs.shared.clock.ClockViews.{ClockView, PassView}
use Rattle.outside.specs.shared.clock.Keys.{pass_view}
use Rattle.outside.proofs.shared.clock.Asking.{WasTurn, has_seen, keeps_still, on_err, was_told, was_turn}
use Rattle.outside.proofs.shared.clock.shared.Shared.now.Goals as goal

pub invariant_of-pass : goal.invariant_of-pass
invariant_of-pass g c =
    let key = c.pass.inside.key in
    let new = c.end.new.pass in
    let found = c.value_mut.result.now in
    let left = c.tell-told.new.self in
    let of_lock = ap (λ (v : PassView). v.made) c.pass.view_is ∙ c.requires.pass ∙ sym (ap (λ (v : ClockView). v.id) c.self.view_is) in
    let turn : WasTurn key new found left =
    was_turn (lock_id c.self.inside.lock) key c.turn-turn.new.pass new c.turn-turn.result.ticket c.turn-turn.result.value found left c.value_mut.ensures.value
    c.turn-turn.ensures.history c.turn-turn.ensures.pass.2 c.end.ensures.seen of_lock c.end.ensures.pass.0.0 c.end.ensures.pass.1 in
    keeps_still c.pass.inside.number c.pass.inside.told key new found left c.pass.invariant turn c.tell-told.ensures.added.0 c.tell-told.ensures.added.1

pub returns-in_err-moment-clause-refused : goal.returns-in_err-moment-clause-refused
returns-in_err-moment-clause-refused g c =
    let key = c.pass.inside.key in
    let new = c.end.new.pass in
    let found = c.value_mut.result.now in
    let left = c.tell-told.new.self in
    let of_lock = ap (λ (v : PassView). v.made) c.pass.view_is ∙ c.requires.pass ∙ sym (ap (λ (v : ClockView). v.id) c.self.view_is) in
    let turn : WasTurn key new found left =
    was_turn (lock_id c.self.inside.lock) key c.turn-turn.new.pass new c.turn-turn.result.ticket c.turn-turn.result.value found left c.value_mut.ensures.value
    c.turn-turn.ensures.history c.turn-turn.ensures.pass.2 c.end.ensures.seen of_lock c.end.ensures.pass.0.0 c.end.ensures.pass.1 in
    let seen = has_seen c.pass.inside.number c.pass.inside.told key new found left c.pass.invariant turn c.in_err-moment.ensures.refused in
    on_err c.from_residual.result (subst (λ (v : PassView). HasSeen v (pass_view c.pass.inside.number new c.pass.inside.told)) c.pass.view_is seen)

pub returns-clause-told : goal.returns-clause-told
returns-clause-told g c =
    let key = c.pass.inside.key in
    let new = c.end.new.pass in
    let found = c.value_mut.result.now in
    let left = c.tell-told.new.self in
    let moment = c.in_ok-moment.moment in
    let of_lock = ap (λ (v : PassView). v.made) c.pass.view_is ∙ c.requires.pass ∙ sym (ap (λ (v : ClockView). v.id) c.self.view_is) in
    let turn : WasTurn key new found left =
    was_turn (lock_id c.self.inside.lock) key c.turn-turn.new.pass new c.turn-turn.result.ticket c.turn-turn.result.value found left c.value_mut.ensures.value
    c.turn-turn.ensures.history c.turn-turn.ensures.pass.2 c.end.ensures.seen of_lock c.end.ensures.pass.0.0 c.end.ensures.pass.1 in
    let told = was_told c.pass.inside.number c.pass.inside.told key new found left c.pass.invariant turn moment c.in_ok-moment.ensures.told c.in_ok-moment.ensures.above in
    subst (λ (v : PassView). WasTold moment v (pass_view c.pass.inside.number new moment)) c.pass.view_is told
