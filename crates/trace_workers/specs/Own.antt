-- The lines that are a worker's own, and when it may do one.
use Rattle.std.specs.Prelude.{◌≡◌, ℕ, ◌/◌, ◌%◌, ◌<◌, ◌≤◌, ◌==◌, Bool, false, List, Option, Some, None, is_some, length, ⊤}
use Rattle.partlog.specs.declared.clock_event.TheConstants.{MOST_MOMENT}
use Rattle.trace_file.specs.Contents.{is_shut}
use Rattle.trace_file.specs.declared.line.Line.{Line}
use Rattle.trace_file.specs.declared.line.Line.TheVariants.{Topic, Feed, Shut, Clock, End}
use Rattle.trace_workers.specs.Workers.{WorkerView}

abbrev pub is_own_session : WorkerView → ℕ → Bool
is_own_session worker session = session % worker.worker_count == worker.number

-- bytes for a session of its own, the end of such a session's input, and a moment where it has the clock
abbrev pub is_own : WorkerView → Line → Bool
is_own worker (Topic name partitions followers least) = false
is_own worker (Feed session bytes) = is_own_session worker session
is_own worker (Shut session) = is_own_session worker session
is_own worker (Clock t) = is_some worker.clock
is_own worker End = false

abbrev pub IsThere : WorkerView → ℕ → Type 0
IsThere worker session = session / worker.worker_count < length worker.sessions

-- the place of the session that the line names
abbrev pub named_place : WorkerView → Line → Option ℕ
named_place worker (Topic name partitions followers least) = None
named_place worker (Feed session bytes) = Some (session / worker.worker_count)
named_place worker (Shut session) = Some (session / worker.worker_count)
named_place worker (Clock t) = None
named_place worker End = None

-- the session that the line names is there, and its input is still open where bytes come; a moment is within the limit
abbrev pub MayTake : List Line → Line → WorkerView → Type 0
MayTake before (Topic name partitions followers least) worker = ⊤
MayTake before (Feed session bytes) worker = IsThere worker session × (is_shut session before ≡ false)
MayTake before (Shut session) worker = IsThere worker session
MayTake before (Clock t) worker = t ≤ MOST_MOMENT
MayTake before End worker = ⊤
