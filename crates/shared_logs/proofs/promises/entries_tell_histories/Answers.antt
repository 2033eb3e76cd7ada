use Rattle.shared_logs.proofs.Beside.{clock_events, history_told}
use Rattle.shared_logs.proofs.promises.entries_tell_histories.Goals as goal

pub returns-clause-part : goal.returns-clause-part
returns-clause-part c = λ h kept. history_told h kept.whole

pub returns-clause-clock : goal.returns-clause-clock
returns-clause-clock c = clock_events
