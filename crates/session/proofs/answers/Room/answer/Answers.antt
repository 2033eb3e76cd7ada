use Rattle.std.proofs.Common.{refl, ap, inr}
use Rattle.audit.specs.Fits.{is_answered}
use Rattle.audit.specs.broker.books.Told.{is_cut}
use Rattle.session.proofs.Handling.{answered_how, one_more, out_of_memory, waited_more}
use Rattle.session.proofs.answers.Room.answer.Goals as goal

pub returns-in-Reply-clause-answered : goal.returns-in-Reply-clause-answered
returns-in-Reply-clause-answered g c =
    let h = c.in-Reply.ensures in
    let mid = c.tick.new.pass in
    let new = c.handle.new.pass in
    let how = answered_how h.0.call.how mid.logs.seat new.logs.seat h.2 in
    (one_more c.tick.new.seat.told c.args.body.now c.args.pass.now mid new c.tick.ensures.looked h.0 h.5, record { answered = how.answered; uncut = how.uncut; replied = h.3 })

pub returns-in-Quiet-clause-answered : goal.returns-in-Quiet-clause-answered
returns-in-Quiet-clause-answered g c =
    let h = c.in-Quiet.ensures in
    (one_more c.tick.new.seat.told c.args.body.now c.args.pass.now c.tick.new.pass c.handle.new.pass c.tick.ensures.looked h.0 h.4, ap is_answered h.2, ap is_cut h.2)

pub returns-in-Ok-clause-answered : goal.returns-in-Ok-clause-answered
returns-in-Ok-clause-answered g c =
    let h = c.in-Parked.ensures in
    let f = c.in-Ok.ensures.reply in
    (waited_more c.tick.new.seat.told c.collect.new.seat.told c.args.body.now c.args.pass.now c.tick.new.pass c.handle.new.pass c.collect.new.pass c.collect.ensures.later c.tick.ensures.looked h.0 f.last, f.answer)

pub returns-in-Err-clause-answered : goal.returns-in-Err-clause-answered
returns-in-Err-clause-answered g c =
    let h = c.in-Parked.ensures in
    let f = c.in-Err.ensures.refused in
    inr (refl, waited_more c.tick.new.seat.told c.collect.new.seat.told c.args.body.now c.args.pass.now c.tick.new.pass c.handle.new.pass c.collect.new.pass c.collect.ensures.later c.tick.ensures.looked h.0 f.last, f.unanswered)

pub returns-in-NoMemory-clause-answered : goal.returns-in-NoMemory-clause-answered
returns-in-NoMemory-clause-answered g c =
    out_of_memory c.tick.new.seat.told c.args.body.now c.args.pass.now c.tick.new.pass c.handle.new.pass c.tick.ensures.looked c.in-NoMemory.ensures
