use Rattle.std.proofs.Common.{refl, arith}
use Rattle.session.proofs.Going.{looked_self}
use Rattle.session.proofs.Handling.{is_cut_short, is_finished}
use Rattle.session.proofs.answers.Room.collect.Goals as goal

pub loop-init : goal.loop-init
loop-init g c = record { looked = looked_self c.args.seat.now.told c.args.pass.now; seat = refl; later = omega arith }

pub returns-in-Reply-clause-reply : goal.returns-in-Reply-clause-reply
returns-in-Reply-clause-reply g c =
    let e = c.in-Reply.ensures in
    is_finished c.loop.seat.told c.args.pass.now c.loop.pass c.collect.new.pass c.in-Reply.frame c.loop.invariant.looked e.0 e.1 e.2

pub returns-in-NoMemory-clause-refused : goal.returns-in-NoMemory-clause-refused
returns-in-NoMemory-clause-refused g c =
    let e = c.in-NoMemory.ensures in
    is_cut_short c.loop.seat.told c.args.pass.now c.loop.pass c.collect.new.pass c.loop.invariant.looked e.0 e.1
