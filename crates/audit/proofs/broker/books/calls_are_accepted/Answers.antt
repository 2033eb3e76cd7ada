use Rattle.audit.proofs.broker.books.Acceptings.{accepting_as, accepting_cut, accepting_delayed, accepting_on, accepting_refused, answered_book, called_accepting}
use Rattle.audit.proofs.broker.books.Passing.{others_amid_accepting}
use Rattle.audit.proofs.broker.books.Turning.{accepting_turn}
use Rattle.audit.proofs.broker.books.calls_are_accepted.Goals as goal
use Rattle.std.proofs.Common.{length, refl, None}
use Rattle.audit.specs.declared.account.CallHow.TheVariants.{Cut}
use Rattle.audit.specs.broker.Turns.{how_at_once}
use Rattle.audit.specs.broker.books.Underway.{with_end}

pub returns-clause-called : goal.returns-clause-called
returns-clause-called c = called_accepting

pub returns-clause-others : goal.returns-clause-others
returns-clause-others c = others_amid_accepting

pub returns-clause-entered : goal.returns-clause-entered
returns-clause-entered c u request decisions reached noted decision h next = accepting_on u request decisions reached noted h decision next

pub returns-clause-cut : goal.returns-clause-cut
returns-clause-cut c u request decisions reached noted h =
    accepting_cut (with_end u (Cut None)) request decisions reached noted (accepting_as u request decisions reached noted (Cut None) h) refl

pub returns-clause-answered : goal.returns-clause-answered
returns-clause-answered c u request decisions noted h at_once =
    answered_book (with_end u (how_at_once request.ask)) request decisions noted
    (accepting_as u request decisions (length decisions) noted (how_at_once request.ask) h) at_once refl

pub returns-clause-delayed : goal.returns-clause-delayed
returns-clause-delayed c u request decisions noted h delayed = accepting_delayed u request decisions noted h delayed

pub returns-clause-turn : goal.returns-clause-turn
returns-clause-turn c u part found request decisions reached noted outcome finds h next =
    accepting_turn u part found finds request decisions reached noted outcome h next

pub returns-clause-refused : goal.returns-clause-refused
returns-clause-refused c u request decisions reached noted code h next = accepting_refused u request decisions reached noted h code next
