-- A worker's part, and what is so of it after lines were done.
use Rattle.std.specs.Prelude.{◌≡◌, ℕ, ◌+◌, ◌*◌, ◌/◌, ◌%◌, ◌<◌, Bool, List, [], All, Option, Some, None, is_some, length, map, slice_index_or, ⊤}
use Rattle.audit.specs.Histories.{ticks_of}
use Rattle.shared_broker.specs.Passes.{BrokerView, PassView, made_with}
use Rattle.trace_file.specs.Contents.{input_of, is_named, is_shut, rising_from}
use Rattle.trace_file.specs.declared.line.Line.{Line}
use Rattle.trace_workers.specs.Received.{HasReceived}
use Rattle.trace_workers.specs.Resting.{Rests}
use Rattle.trace_workers.specs.Sessions.{KeepsLines, SessionView}

-- its number and how many workers there are, its sessions by their numbers, the pass of the clock if it has that, and whether it stopped because memory ran out
pub record WorkerView : Type 0 where
  pub number : ℕ
  pub worker_count : ℕ
  pub sessions : List SessionView
  pub clock : Option PassView
  pub is_stopped : Bool

-- a session of this broker that has received what these lines bring it, on the pass of its own number, which has never moved the clock
pub record HasTaken (broker : BrokerView) (lines : List Line) (s : SessionView) : Type 0 where
  pub made : made_with s.pass ≡ broker
  pub pass : s.pass.logs.number ≡ s.number
  pub received : HasReceived (input_of s.number lines) s
  pub shut : s.is_shut ≡ is_shut s.number lines
  pub named : s.is_named ≡ is_named s.number lines
  pub ticked : s.pass.logs.ticked ≡ []

-- The clock's pass has no transcript. If nobody else has moved the clock, as far as it has seen, it has moved it to each moment of these lines that is
-- above all earlier ones.
pub record HasToldAll (broker : BrokerView) (lines : List Line) (pass : PassView) : Type 0 where
  pub made : made_with pass ≡ broker
  pub ended : pass.ended ≡ []
  pub going : pass.going ≡ None
  pub waits : pass.waits ≡ None
  pub told : ticks_of pass.logs.clock ≡ pass.logs.ticked → pass.logs.ticked ≡ rising_from 0 lines

abbrev pub IfClock : (PassView → Type 0) → Option PassView → Type 0
IfClock P None = ⊤
IfClock P (Some pass) = P pass

-- the k-th session of worker w is that of number w + k times the number of workers
abbrev pub AreNumbered : WorkerView → Type 0
AreNumbered worker = (k : ℕ) (s : SessionView) → k < length worker.sessions → (slice_index_or worker.sessions k s).number ≡ worker.number + k * worker.worker_count

-- these lines were done, as far as they are this worker's
pub record HasDone (broker : BrokerView) (lines : List Line) (worker : WorkerView) : Type 0 where
  pub numbered : AreNumbered worker
  pub sessions : All (HasTaken broker lines) worker.sessions
  pub clock : IfClock (HasToldAll broker lines) worker.clock

-- and all its sessions rest
abbrev pub AllRest : WorkerView → Type 0
AllRest worker = All Rests worker.sessions

-- all its sessions keep the lines of their replies, or none does, as this says
abbrev pub AllKeep : Bool → WorkerView → Type 0
AllKeep keeps worker = All (KeepsLines keeps) worker.sessions

-- there is a pass of the clock, or none, and it is the same
abbrev pub IsSameClock : Option PassView → Option PassView → Type 0
IsSameClock None now = now ≡ None
IsSameClock (Some pass) now = (later : PassView) × (now ≡ Some later) × (later.logs.number ≡ pass.logs.number)

-- the same worker, with the same sessions and clock; each session keeps lines if it did before, and else none
pub record IsSameWorker (old new : WorkerView) : Type 0 where
  pub number : new.number ≡ old.number
  pub worker_count : new.worker_count ≡ old.worker_count
  pub sessions : map (λ (s : SessionView). s.number) new.sessions ≡ map (λ (s : SessionView). s.number) old.sessions
  pub passes : map (λ (s : SessionView). s.pass.logs.number) new.sessions ≡ map (λ (s : SessionView). s.pass.logs.number) old.sessions
  pub kept : map (λ (s : SessionView). is_some s.kept) new.sessions ≡ map (λ (s : SessionView). is_some s.kept) old.sessions
  pub clock : IsSameClock old.clock new.clock

-- the worker has a session of each number below the count that is its own
abbrev pub HasAll : ℕ → WorkerView → Type 0
HasAll count worker = (session : ℕ) → session < count → session % worker.worker_count ≡ worker.number → session / worker.worker_count < length worker.sessions
