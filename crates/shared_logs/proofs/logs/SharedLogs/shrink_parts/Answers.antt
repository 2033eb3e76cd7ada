use Rattle.std.proofs.Common.{◌≡◌, arith, length}
use Rattle.shared_logs.proofs.Passes.{seen_count}
use Rattle.shared_logs.proofs.Shrinking.{none_at_first, none_in_all, none_more, shrunk_on, shrunk_self}
use Rattle.shared_logs.proofs.logs.SharedLogs.shrink_parts.Goals as goal

pub loop-at-init : goal.loop-at-init
loop-at-init g c = record {
  made = c.requires.made;
  shrunk = shrunk_self c.args.t c.args.pass.now;
  none = none_at_first c.args.t c.args.pass.now;
}

pub returns-in_err-shrink-clause-shrunk : goal.returns-in_err-shrink-clause-shrunk
returns-in_err-shrink-clause-shrunk g c = shrunk_on c.args.t c.args.pass.now c.loop-at.pass c.shrink.new.pass c.loop-at.invariant.shrunk c.shrink.ensures.shrunk.shrunk

pub loop-at-preserved : goal.loop-at-preserved
loop-at-preserved g c = record {
  made = c.shrink.ensures.made;
  shrunk = shrunk_on c.args.t c.args.pass.now c.loop-at.pass c.shrink.new.pass c.loop-at.invariant.shrunk c.shrink.ensures.shrunk.shrunk;
  none = none_more c.loop-at.at c.args.t c.loop-at.pass c.shrink.new.pass c.shrink.ensures.shrunk c.in_ok-shrink.ensures.none_lags c.loop-at.invariant.none;
}

pub returns-clause-none_lags : goal.returns-clause-none_lags
returns-clause-none_lags g c =
    let s = c.self.inside in
    let pass = c.loop-at.pass in
    let count : length pass.parts ≡ length s.parts.items = seen_count s.room s.parts.items s.clock c.args.self.now pass c.self.view_is c.keeps.ensures c.loop-at.invariant.made in
    let end = c.len-at-end.ensures in
    let past = c.loop-at-test.false in
    none_in_all c.loop-at.at c.args.t pass (omega (arith, count, end, past)) c.loop-at.invariant.none
