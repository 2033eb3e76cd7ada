use Rattle.shared_logs.proofs.Beside.{clock_goes_on, goes_on}
use Rattle.shared_logs.proofs.promises.histories_go_on.Goals as goal

pub returns-clause-part : goal.returns-clause-part
returns-clause-part c = λ h later kept all. goes_on h later kept.whole all.whole

pub returns-clause-clock : goal.returns-clause-clock
returns-clause-clock c = clock_goes_on
