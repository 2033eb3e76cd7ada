use Rattle.audit.proofs.WorkedLeaves.{alone_lawful, right_entries, left_early, left_untold, another_left, fetched_early, fetched_untold}
use Rattle.audit.proofs.promises.worked_leaves.Goals as goal

pub returns-clause-lawful : goal.returns-clause-lawful
returns-clause-lawful c = alone_lawful

pub returns-clause-entries : goal.returns-clause-entries
returns-clause-entries c = right_entries

pub returns-clause-left_early : goal.returns-clause-left_early
returns-clause-left_early c = left_early

pub returns-clause-left_untold : goal.returns-clause-left_untold
returns-clause-left_untold c = left_untold

pub returns-clause-another_left : goal.returns-clause-another_left
returns-clause-another_left c = another_left

pub returns-clause-fetched_early : goal.returns-clause-fetched_early
returns-clause-fetched_early c = fetched_early

pub returns-clause-fetched_untold : goal.returns-clause-fetched_untold
returns-clause-fetched_untold c = fetched_untold
