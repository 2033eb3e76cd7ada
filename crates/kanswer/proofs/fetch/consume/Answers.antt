use Rattle.std.proofs.Common.{◌≡◌, ap}
use Rattle.partlog.specs.Added.{log_end_of}
use Rattle.partlog.specs.State.{state_of}
use Rattle.partlog.specs.declared.numbers.Numbers.{Numbers}
use Rattle.kanswer.specs.Decisions.{Looked}
use Rattle.kanswer.proofs.Putting.{if_ok}
use Rattle.kanswer.proofs.Fetching.{out_of_range, in_range}
use Rattle.kanswer.proofs.fetch.consume.Goals as goal

pub returns-in_default-clause-entered : goal.returns-in_default-clause-entered
returns-in_default-clause-entered c =
    let end : c.numbers.result.end ≡ log_end_of c.args.log.now.events = ap (λ (m : Numbers). m.end) c.numbers.ensures.numbers in
    if_ok c.look_at.result c.look_at.ensures.entered (λ came k. k _ (out_of_range c.args.part c.args.asked.now.offset Looked (state_of c.args.log.now) c.numbers.result.end end c.in_default.ensures.outside))

pub returns-clause-entered : goal.returns-clause-entered
returns-clause-entered c =
    let end : c.numbers.result.end ≡ log_end_of c.args.log.now.events = ap (λ (m : Numbers). m.end) c.numbers.ensures.numbers in
    let w = c.in-Some.ensures.within in
    if_ok c.look_at-2.result c.look_at-2.ensures.entered (λ came k. k _
    (in_range c.args.part c.args.asked.now.offset Looked (state_of c.args.log.now) c.numbers.result.end c.in-Some.offset c.locate-start.result end w.0 w.1 c.locate-start.ensures.start))
