use Rattle.shared_logs.proofs.Owners.{clock_named, named}
use Rattle.shared_logs.proofs.promises.entries_name_owners.Goals as goal

pub returns-clause-part : goal.returns-clause-part
returns-clause-part c = λ h. named h.events h.log

pub returns-clause-clock : goal.returns-clause-clock
returns-clause-clock c = clock_named
