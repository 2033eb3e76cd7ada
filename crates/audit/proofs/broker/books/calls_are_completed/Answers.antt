use Rattle.std.proofs.Common.{None, Some, refl}
use Rattle.audit.specs.declared.account.CallHow.TheVariants.{Cut, Expired, Parked, Satisfied}
use Rattle.audit.proofs.broker.Laws.{clock_point}
use Rattle.audit.specs.broker.books.Underway.{with_end}
use Rattle.audit.proofs.broker.books.Finishings.{delayed_as, delayed_cut, delayed_parked, finishing_as, finishing_cut, finishing_expired, finishing_late, finishing_on, finishing_satisfied, finishing_won, waits_delayed}
use Rattle.audit.proofs.broker.books.Passing.{others_amid_finishing}
use Rattle.audit.proofs.broker.books.Turning.{finishing_turn}
use Rattle.audit.proofs.broker.books.calls_are_completed.Goals as goal

pub returns-clause-parked : goal.returns-clause-parked
returns-clause-parked c u w h unfinished = delayed_parked (with_end u Parked) w (delayed_as u w Parked h) unfinished refl

pub returns-clause-unwon : goal.returns-clause-unwon
returns-clause-unwon c u w h unfinished = delayed_cut (with_end u (Cut None)) w (delayed_as u w (Cut None) h) unfinished refl

pub returns-clause-waits : goal.returns-clause-waits
returns-clause-waits c = waits_delayed

pub returns-clause-won : goal.returns-clause-won
returns-clause-won c = finishing_won

pub returns-clause-late : goal.returns-clause-late
returns-clause-late c u w h unfinished overdue = (clock_point u.clock, finishing_late u w h unfinished overdue)

pub returns-clause-others : goal.returns-clause-others
returns-clause-others c = others_amid_finishing

pub returns-clause-looked : goal.returns-clause-looked
returns-clause-looked c u w late states part h next enough = finishing_on u w late states h part next enough

pub returns-clause-cut : goal.returns-clause-cut
returns-clause-cut c u w late states by h =
    finishing_cut (with_end u (Cut (Some by))) w states by late (finishing_as u w late states (Cut (Some by)) h) refl

pub returns-clause-satisfied : goal.returns-clause-satisfied
returns-clause-satisfied c u w states by h all =
    finishing_satisfied (with_end u (Satisfied by)) w states by (finishing_as u w None states (Satisfied by) h) all refl

pub returns-clause-expired : goal.returns-clause-expired
returns-clause-expired c u w late states by h all =
    finishing_expired (with_end u (Expired by)) w states by late (finishing_as u w (Some late) states (Expired by) h) all refl

pub returns-clause-turn : goal.returns-clause-turn
returns-clause-turn c u part found w late states finds h next enough = finishing_turn u part found finds w late states h next enough
