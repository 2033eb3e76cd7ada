use Rattle.std.proofs.Common.{◌∙◌, [], ap, append-nil, arith, sym}
use Rattle.turn_lock.specs.Locks.{lock_id}
use Rattle.outside.specs.shared.clock.ClockViews.{ClockView, PassView}
use Rattle.outside.specs.shared.clock.Moments.{greatest}
use Rattle.outside.proofs.shared.clock.Asking.{WasTurn, keeps_still, told_found, was_turn}
use Rattle.outside.proofs.shared.clock.shared.Shared.rest.Goals as goal

pub invariant_of-pass : goal.invariant_of-pass
invariant_of-pass g c =
    let key = c.pass.inside.key in
    let new = c.end.new.pass in
    let found = c.value_mut.result.now in
    let left = c.rest-moment.new.self in
    let of_lock = ap (λ (v : PassView). v.made) c.pass.view_is ∙ c.requires.pass ∙ sym (ap (λ (v : ClockView). v.id) c.self.view_is) in
    let turn : WasTurn key new found left =
    was_turn (lock_id c.self.inside.lock) key c.turn-turn.new.pass new c.turn-turn.result.ticket c.turn-turn.result.value found left c.value_mut.ensures.value
    c.turn-turn.ensures.history c.turn-turn.ensures.pass.2 c.end.ensures.seen of_lock c.end.ensures.pass.0.0 c.end.ensures.pass.1 in
    keeps_still c.pass.inside.number c.pass.inside.told key new found left c.pass.invariant turn [] (c.rest-moment.ensures.told ∙ sym (append-nil found.told))

pub returns-clause-later : goal.returns-clause-later
returns-clause-later g c =
    let key = c.pass.inside.key in
    let new = c.end.new.pass in
    let found = c.value_mut.result.now in
    let left = c.rest-moment.new.self in
    let of_lock = ap (λ (v : PassView). v.made) c.pass.view_is ∙ c.requires.pass ∙ sym (ap (λ (v : ClockView). v.id) c.self.view_is) in
    let turn : WasTurn key new found left =
    was_turn (lock_id c.self.inside.lock) key c.turn-turn.new.pass new c.turn-turn.result.ticket c.turn-turn.result.value found left c.value_mut.ensures.value
    c.turn-turn.ensures.history c.turn-turn.ensures.pass.2 c.end.ensures.seen of_lock c.end.ensures.pass.0.0 c.end.ensures.pass.1 in
    let told = told_found c.pass.inside.number c.pass.inside.told key new found left c.pass.invariant turn in
    let same = ap greatest c.rest-moment.ensures.told in
    omega (arith, told, same, c.rest-moment.ensures.above)
