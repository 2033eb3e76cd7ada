use Rattle.audit.proofs.broker.books.Passing.{others_between, ticked}
use Rattle.audit.proofs.broker.books.Opening.{opened}
use Rattle.audit.proofs.broker.books.Underways.{begun, ended, taken_out}
use Rattle.audit.proofs.broker.books.books_go_on.Goals as goal

pub returns-clause-opened : goal.returns-clause-opened
returns-clause-opened c = opened

pub returns-clause-others : goal.returns-clause-others
returns-clause-others c = others_between

pub returns-clause-begun : goal.returns-clause-begun
returns-clause-begun c = begun

pub returns-clause-ended : goal.returns-clause-ended
returns-clause-ended c = ended

pub returns-clause-ticked : goal.returns-clause-ticked
returns-clause-ticked c = ticked

pub returns-clause-taken_out : goal.returns-clause-taken_out
returns-clause-taken_out c = taken_out
