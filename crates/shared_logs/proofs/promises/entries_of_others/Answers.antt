use Rattle.shared_logs.specs.Entries.{clock_by, clock_entries, entry_by, log_entries}
use Rattle.shared_logs.proofs.Owners.{clock_named, named, none_behind}
use Rattle.shared_logs.proofs.promises.entries_of_others.Goals as goal

pub returns-clause-part : goal.returns-clause-part
returns-clause-part c = λ h pass first place seq none le at.
    let n = named h.events h.log place pass seq at in
    none_behind entry_by pass first place (log_entries h) n.0 none le n.1 n.2

pub returns-clause-clock : goal.returns-clause-clock
returns-clause-clock c = λ events tickers pass first place seq none le at.
    let n = clock_named events tickers place pass seq at in
    none_behind clock_by pass first place (clock_entries events tickers) n.0 none le n.1 n.2
