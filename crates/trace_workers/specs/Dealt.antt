-- Sessions and clock as they are dealt to workers, and as those have worked.
use Rattle.std.specs.Prelude.{ℕ, ◌≡◌, ◌==◌, ◌<◌, false, List, [], MatchBool, Option, Some, None, length, slice_index_or, sum_by}
use Rattle.shared_broker.specs.Passes.{BrokerView, PassView}
use Rattle.trace_file.specs.declared.line.Line.{Line}
use Rattle.trace_workers.specs.Workers.{HasAll, HasDone, WorkerView}

-- worker 0 has the clock's pass, whose number is this, and no other worker has one
abbrev pub HasClockOf : ℕ → ℕ → Option PassView → Type 0
HasClockOf number worker_number clock = MatchBool (worker_number == 0) ((pass : PassView) × (clock ≡ Some pass) × (pass.logs.number ≡ number)) (clock ≡ None)

-- worker k of these has its own of that many sessions, and no line was done
pub record IsDealt (broker : BrokerView) (count worker_count k : ℕ) (worker : WorkerView) : Type 0 where
  pub number : worker.number ≡ k
  pub among : worker.worker_count ≡ worker_count
  pub begun : HasDone broker [] worker
  pub all : HasAll count worker
  pub running : worker.is_stopped ≡ false
  pub clock : HasClockOf count k worker.clock

abbrev pub sessions_dealt : List WorkerView → ℕ
sessions_dealt workers = sum_by (λ (worker : WorkerView). length worker.sessions) workers

pub record AreDealt (broker : BrokerView) (count worker_count : ℕ) (workers : List WorkerView) : Type 0 where
  pub size : length workers ≡ worker_count
  pub each : (k : ℕ) (d : WorkerView) → k < worker_count → IsDealt broker count worker_count k (slice_index_or workers k d)
  pub sessions : sessions_dealt workers ≡ count

-- the same worker, and unless it stopped the lines were done, as far as they are its own
pub record IsWorked (broker : BrokerView) (lines : List Line) (count worker_count k : ℕ) (worker : WorkerView) : Type 0 where
  pub number : worker.number ≡ k
  pub among : worker.worker_count ≡ worker_count
  pub done : worker.is_stopped ≡ false → HasDone broker lines worker
  pub all : HasAll count worker
  pub clock : HasClockOf count k worker.clock

pub record AreWorked (broker : BrokerView) (lines : List Line) (count worker_count : ℕ) (workers : List WorkerView) : Type 0 where
  pub size : length workers ≡ worker_count
  pub each : (k : ℕ) (d : WorkerView) → k < worker_count → IsWorked broker lines count worker_count k (slice_index_or workers k d)
  pub sessions : sessions_dealt workers ≡ count
