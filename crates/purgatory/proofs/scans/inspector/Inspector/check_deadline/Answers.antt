use Rattle.purgatory.proofs.scans.Goes.{goes_far}
use Rattle.purgatory.proofs.scans.inspector.Inspector.check_deadline.Goals as goal

pub returns-then-not-leave_clock-clause-went : goal.returns-then-not-leave_clock-clause-went
returns-then-not-leave_clock-clause-went g c =
    goes_far c.args.self.now c.learn_all.new.self c.leave_clock.new.self c.learn_all.ensures.went c.leave_clock.ensures.went

pub returns-clause-went : goal.returns-clause-went
returns-clause-went g c =
    goes_far c.args.self.now c.leave_clock.new.self c.win.new.self
    (goes_far c.args.self.now c.learn_all.new.self c.leave_clock.new.self c.learn_all.ensures.went c.leave_clock.ensures.went)
    c.win.ensures.went
