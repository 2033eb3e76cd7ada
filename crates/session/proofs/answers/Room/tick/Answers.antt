use Rattle.session.proofs.Going.{looked_partly_told, looked_self, looked_told, told_now}
use Rattle.session.proofs.Handling.{either_way}
use Rattle.session.proofs.answers.Room.tick.Goals as goal

pub returns-in_err-moment-clause-looked : goal.returns-in_err-moment-clause-looked
returns-in_err-moment-clause-looked g c = looked_self c.now.new.pass.told c.args.pass.now

pub returns-clause-looked : goal.returns-clause-looked
returns-clause-looked g c =
    let moment = c.in_ok-moment.moment in
    let told = c.now.new.pass.told in
    let old = c.args.pass.now in
    let new = c.tick.new.pass in
    let le = told_now moment c.args.seat.now c.now.new.pass c.in_ok-moment.ensures.told in
    either_way c.tick.result c.tick.ensures.told c.tick.ensures.refused (looked_told moment told old new le) (looked_partly_told moment told old new le)
