use Rattle.std.proofs.Common.{arith}
use Rattle.partlog.proofs.Timing.{timed-tick}
use Rattle.partlog.proofs.clock_log.ClockLog.tick.Goals as goal

pub invariant_of-self-2 : goal.invariant_of-self-2
invariant_of-self-2 c = rw c.in_ok-push.ensures.ok (timed-tick c.self.inside.events c.self.inside.moment c.args.t (omega (arith, c.if-t-self.false)) c.requires c.self.invariant)
