-- What is had back from workers once their threads are joined.
use Rattle.std.specs.Prelude.{◌≡◌, false, List, [], ◌∷◌, None, Option}
use Rattle.std.specs.Option.{option_or}
use Rattle.shared_broker.specs.Passes.{PassView}
use Rattle.trace_workers.specs.Sessions.{SessionView}
use Rattle.trace_workers.specs.Workers.{WorkerView}

abbrev pub sessions_in : WorkerView → List SessionView
sessions_in worker = worker.sessions

-- the first clock that there is
abbrev pub first_clock : List WorkerView → Option PassView
first_clock [] = None
first_clock (worker ∷ workers) = option_or worker.clock (first_clock workers)

-- it did not run out of memory
abbrev pub IsRunning : WorkerView → Type 0
IsRunning worker = worker.is_stopped ≡ false
