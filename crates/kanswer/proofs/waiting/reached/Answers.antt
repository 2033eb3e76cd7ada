use Rattle.std.proofs.Common.{arith}
use Rattle.partlog.specs.declared.numbers.Numbers.{Numbers}
use Rattle.kwire.specs.Views.{ask_of}
use Rattle.kanswer.specs.Waiting.{needs_by_part}
use Rattle.kanswer.proofs.Waits.{reached_on, reached_end}
use Rattle.kanswer.proofs.waiting.reached.Goals as goal

pub loop-at-preserved : goal.loop-at-preserved
loop-at-preserved c =
    let none : Numbers = record { end = 0; high = 0; visible = 0; bytes = 0; insync = 0 } in
    let needs = needs_by_part (ask_of c.args.ask.now) c.args.accepted.now in
    let on = reached_on needs c.args.numbers.now c.loop-at.at c.need_at.result none c.need_at.ensures.need (omega (arith, c.loop-at-test.true, c.requires.numbers)) in
    let part = c.reached_at-reached.ensures in
    (omega (arith, c.loop-at.invariant.0, on, part.reached), omega (arith, c.loop-at.invariant.1, part.limit))

pub returns : goal.returns
returns c =
    let needs = needs_by_part (ask_of c.args.ask.now) c.args.accepted.now in
    let done = reached_end needs c.args.numbers.now c.loop-at.at (omega (arith, c.loop-at-test.false, c.requires.numbers)) in
    omega (arith, c.loop-at.invariant.0, done)
