use Rattle.audit.proofs.broker.books.WorkedLeaves.{early_apart, leave_lawful, leave_together, ticker_left, unseen_apart, untold_no_book}
use Rattle.audit.proofs.broker.books.worked_leaves.Goals as goal

pub returns-clause-taken_out : goal.returns-clause-taken_out
returns-clause-taken_out c = ticker_left

pub returns-clause-together : goal.returns-clause-together
returns-clause-together c = leave_together

pub returns-clause-lawful : goal.returns-clause-lawful
returns-clause-lawful c = leave_lawful

pub returns-clause-early : goal.returns-clause-early
returns-clause-early c = early_apart

pub returns-clause-unseen : goal.returns-clause-unseen
returns-clause-unseen c = unseen_apart

pub returns-clause-untold : goal.returns-clause-untold
returns-clause-untold c = untold_no_book
