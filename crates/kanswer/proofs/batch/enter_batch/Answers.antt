use Rattle.std.proofs.Common.{◌≡◌, ◌<◌, ap, arith}
use Rattle.kbatch.specs.Kept.{count_of}
use Rattle.partlog.specs.State.{PartState, state_of}
use Rattle.partlog.specs.declared.numbers.Numbers.{Numbers}
use Rattle.kanswer.proofs.Putting.{if_ok, has_too_few}
use Rattle.kanswer.proofs.batch.enter_batch.Goals as goal

pub returns-then-numbers-sent-clause-entered : goal.returns-then-numbers-sent-clause-entered
returns-then-numbers-sent-clause-entered c =
    let state : PartState = state_of c.args.log.now in
    let sent = c.args.sent.now in
    let same : c.numbers.result.insync ≡ state.insync = ap (λ (n : Numbers). n.insync) c.numbers.ensures.numbers in
    let few : state.insync < sent.least = omega (arith, same, c.if-numbers-sent.true) in
    if_ok c.look_at.result c.look_at.ensures.entered (λ came then. then _
    (has_too_few sent.version sent.least c.args.part (count_of sent.batch) sent.batch state few))
