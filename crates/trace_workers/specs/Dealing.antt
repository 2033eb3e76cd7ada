-- Sessions as they are dealt to workers, one after the other, before the clock is.
use Rattle.std.specs.Prelude.{ℕ, ◌≡◌, ◌+◌, ◌*◌, ◌<◌, ◌≤◌, false, List, [], None, Option, length, map, slice_index_or}
use Rattle.std.specs.List.{range_with_len}
use Rattle.shared_broker.specs.Making.{fresh_pass}
use Rattle.shared_broker.specs.Passes.{BrokerView}
use Rattle.trace_workers.specs.declared.print_part.PrintPart.{PrintPart}
use Rattle.trace_workers.specs.Sessions.{SessionView}
use Rattle.trace_workers.specs.Workers.{HasDone, WorkerView}
use Rattle.trace_workers.specs.Dealt.{sessions_dealt}

-- worker k of these, who has nothing
abbrev pub empty_worker : ℕ → ℕ → WorkerView
empty_worker worker_count k = record { number = k; worker_count = worker_count; sessions = []; clock = None; is_stopped = false }

abbrev pub empty_workers : ℕ → List WorkerView
empty_workers worker_count = map (empty_worker worker_count) (range_with_len 0 worker_count)

-- a session that no line has named, on the new pass of its own number
abbrev pub fresh_session : BrokerView → ℕ → Option (List PrintPart) → SessionView
fresh_session broker number kept = record { number = number; pass = fresh_pass broker number; inbox = []; is_shut = false; is_named = false; kept = kept }

-- Worker k of these has its own of that many sessions, and no clock: the first of its own that it doesn't have is the first that isn't below that many.
pub record IsDealing (broker : BrokerView) (dealt worker_count k : ℕ) (worker : WorkerView) : Type 0 where
  pub number : worker.number ≡ k
  pub among : worker.worker_count ≡ worker_count
  pub begun : HasDone broker [] worker
  pub above : dealt ≤ k + length worker.sessions * worker_count
  pub below : k + length worker.sessions * worker_count < dealt + worker_count
  pub running : worker.is_stopped ≡ false
  pub clock : worker.clock ≡ None

pub record AreDealing (broker : BrokerView) (dealt worker_count : ℕ) (workers : List WorkerView) : Type 0 where
  pub size : length workers ≡ worker_count
  pub each : (k : ℕ) (d : WorkerView) → k < worker_count → IsDealing broker dealt worker_count k (slice_index_or workers k d)
  pub sessions : sessions_dealt workers ≡ dealt
