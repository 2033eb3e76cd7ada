use Rattle.std.proofs.Common.{inr}
use Rattle.partlog.specs.Moment.{moment_of}
use Rattle.shared_logs.proofs.Shrinking.{not_risen, tick_rose, tick_stood}
use Rattle.shared_logs.proofs.Telling.{any_err}
use Rattle.shared_logs.proofs.logs.SharedLogs.tick.Goals as goal

pub returns-in_err-shrink_parts-clause-refused : goal.returns-in_err-shrink_parts-clause-refused
returns-in_err-shrink_parts-clause-refused g c =
    let t = c.in_ok-tell_clock.ensures.told in
    any_err c.from_residual-in_err-shrink_parts.result
    (inr (record {
      between = c.tell_clock.new.pass;
      told = t.0;
      rose = t.1.0 c.if-branch.true;
      shrunk = c.shrink_parts.ensures.shrunk;
    }))

pub returns-in_ok-shrink_parts-clause-told : goal.returns-in_ok-shrink_parts-clause-told
returns-in_ok-shrink_parts-clause-told g c =
    let t = c.in_ok-tell_clock.ensures.told in
    tick_rose c.args.t c.args.pass.now c.tell_clock.new.pass c.shrink_parts.new.pass t.0 (t.1.0 c.if-branch.true) c.shrink_parts.ensures.shrunk c.in_ok-shrink_parts.ensures.none_lags

pub returns-else-branch-clause-told : goal.returns-else-branch-clause-told
returns-else-branch-clause-told g c =
    let t = c.in_ok-tell_clock.ensures.told in
    tick_stood c.args.t c.args.pass.now c.tell_clock.new.pass t.0 (not_risen c.in_ok-tell_clock.field-0 (moment_of t.0.found) c.args.t t.1 c.if-branch.false)
