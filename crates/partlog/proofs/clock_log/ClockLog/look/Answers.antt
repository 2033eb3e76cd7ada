use Rattle.partlog.proofs.Timing.{moment-look, timed-look}
use Rattle.partlog.proofs.clock_log.ClockLog.look.Goals as goal

pub invariant_of-self-2 : goal.invariant_of-self-2
invariant_of-self-2 c = rw c.in_ok-push.ensures.ok (timed-look c.self.inside.events c.self.inside.moment c.args.who.by c.args.who.seq c.self.invariant)

pub returns-clause-moment : goal.returns-clause-moment
returns-clause-moment c = rw (c.in_ok-push.ensures.ok, ← c.self.view_is) (moment-look c.self.inside.events c.args.who.by c.args.who.seq)
