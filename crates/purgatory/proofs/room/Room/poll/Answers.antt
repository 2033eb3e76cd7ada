use Rattle.std.proofs.Common.{◌∙◌, ap, subst}
use Rattle.room_table.specs.Seats.{caller_now}
use Rattle.purgatory.specs.Polled.{HasPolled}
use Rattle.purgatory.specs.Rooms.{PassView}
use Rattle.purgatory.proofs.Words.{has_taken, rests, waits_still}
use Rattle.purgatory.proofs.room.Room.poll.Goals as goal

pub invariant_of-pass : goal.invariant_of-pass
invariant_of-pass c =
    let waits = ap (λ (v : PassView). (caller_now v.seat).stage) c.pass.view_is ∙ c.requires.waits in
    rests c.poll.result c.pass.inside.owner c.poll.new.self c.poll.ensures waits

pub returns-clause-none : goal.returns-clause-none
returns-clause-none c =
    let waits = ap (λ (v : PassView). (caller_now v.seat).stage) c.pass.view_is ∙ c.requires.waits in
    waits_still c.poll.result c.pass.inside.owner c.poll.new.self c.poll.ensures waits

pub returns-clause-some : goal.returns-clause-some
returns-clause-some c =
    let step = subst (λ (v : PassView). HasPolled c.poll.result v.seat c.poll.new.self) c.pass.view_is c.poll.ensures in
    has_taken c.poll.result c.args.pass.now.seat c.poll.new.self step
