use Rattle.std.proofs.Common.{ℕ, Option, rules, subst, sym}
use Rattle.room_core.specs.Checks.{AreRead}
use Rattle.room_core.specs.Readings.{read_only}
use Rattle.room_table.specs.Seats.{scanner_now}
use Rattle.purgatory.proofs.scans.Goes.{goes_far}
use Rattle.purgatory.proofs.scans.Looking.{all_kept, looked_far, on_check}
use Rattle.purgatory.proofs.scans.inspector.Inspector.check_needs.Goals as goal

pub returns-then-not-read_needs-clause-went : goal.returns-then-not-read_needs-clause-went
returns-then-not-read_needs-clause-went g c =
    goes_far c.args.self.now c.learn_all.new.self c.read_needs.new.self c.learn_all.ensures.went c.read_needs.ensures.went

pub leave_needs-requires-clause-on : goal.leave_needs-requires-clause-on
leave_needs-requires-clause-on g c =
    let a = scanner_now c.args.self.now in
    let b = scanner_now c.learn_all.new.self in
    let d = scanner_now c.read_needs.new.self in
    on_check a d c.args.pass c.requires.met c.requires.duty (looked_far a b d c.learn_all.ensures.looked c.read_needs.ensures.more.looked) (all_kept b d c.read_needs.ensures.more.learned c.in-Some.ensures.learned)

pub leave_needs-requires-clause-read : goal.leave_needs-requires-clause-read
leave_needs-requires-clause-read g c =
    let b = scanner_now c.learn_all.new.self in
    let d = scanner_now c.read_needs.new.self in
    subst (λ (l : ℕ → Option ℕ). AreRead d.readings c.args.gauge (read_only l)) (sym c.read_needs.ensures.more.learned) (c.read_needs.ensures.read (search rules))

pub returns-then-not-leave_needs-clause-went : goal.returns-then-not-leave_needs-clause-went
returns-then-not-leave_needs-clause-went g c =
    goes_far c.args.self.now c.read_needs.new.self c.leave_needs.new.self
    (goes_far c.args.self.now c.learn_all.new.self c.read_needs.new.self c.learn_all.ensures.went c.read_needs.ensures.went)
    c.leave_needs.ensures.went

pub returns-clause-went : goal.returns-clause-went
returns-clause-went g c =
    goes_far c.args.self.now c.leave_needs.new.self c.win.new.self
    (goes_far c.args.self.now c.read_needs.new.self c.leave_needs.new.self
    (goes_far c.args.self.now c.learn_all.new.self c.read_needs.new.self c.learn_all.ensures.went c.read_needs.ensures.went)
    c.leave_needs.ensures.went)
    c.win.ensures.went
