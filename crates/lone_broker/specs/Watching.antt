-- What the one-thread broker watches, so that after a line it checks only what can have become answerable: which session waits for which
-- gauges and which moment, by the numbers that the index was last told; and which sessions can act.
use Rattle.std.specs.Prelude.{ℕ, ◌≡◌, ◌+◌, ◌^◌, ◌<◌, ◌≤◌, ◌↔◌, List, length, map, true, Option, Some, None, unwrap_or, slice_get}
use Rattle.partlog.specs.Gauges.{numbers_of}
use Rattle.partlog.specs.History.{History}
use Rattle.partlog.specs.Moment.{moment_of as clock_moment}
use Rattle.partlog.specs.State.{state_of}
use Rattle.partlog.specs.declared.numbers.Numbers.{Numbers}
use Rattle.opcond.specs.Operation.{Operation}
use Rattle.opcond.specs.Tally.{tally}
use Rattle.kanswer.specs.PartitionGauges.{partition_of}
use Rattle.kanswer.specs.Reached.{gauge_in}
use Rattle.lone_broker.specs.index.Index.{Index, IsSuspect, WaitsFor, coming_of, last_of, moment_of}
use Rattle.lone_broker.specs.index.Sessions.{Has}
use Rattle.lone_broker.specs.index.Waiting.{Names, WaitsWith}
use Rattle.audit.specs.broker.Board.{empty_history, history_at, most_sessions, next_call}
use Rattle.lone_broker.specs.Kept.{Stands, parked_at}
use Rattle.lone_broker.specs.Steps.{is_ready}
use Rattle.lone_broker.specs.declared.parked.Parked.{Parked}
use Rattle.lone_broker.specs.declared.watched.Watched.{Watched}

-- the numbers of a partition's log
abbrev pub numbers_now : List History → ℕ → Numbers
numbers_now parts part = numbers_of (state_of (history_at parts part))

-- the numbers that the index was last told
abbrev pub told_at : List Numbers → ℕ → Numbers
told_at told part = unwrap_or (slice_get told part) (numbers_of (state_of (empty_history 0)))

-- the value of a gauge by these numbers
abbrev pub told_value : List Numbers → ℕ → ℕ
told_value told gauge = gauge_in gauge (told_at told (partition_of gauge))

-- the index was told the numbers that each partition has
pub record AreTold (told : List Numbers) (parts : List History) : Type 0 where
  pub size : length told ≡ length parts
  pub each : (part : ℕ) → told_at told part ≡ numbers_now parts part

-- the told numbers don't satisfy the operation, and its deadline is still to come
pub record IsShort (told : List Numbers) (moment : ℕ) (op : Operation) : Type 0 where
  pub unreached : tally op.needs (map (λ need. told_value told need.gauge) op.needs) < op.least
  pub early : moment < op.deadline

-- whatever waits isn't answerable
abbrev pub IsQuiet : List Numbers → ℕ → Option Parked → Type 0
IsQuiet told moment None = Unit {0}
IsQuiet told moment (Some parked) = IsShort told moment parked.op

-- the session waits for the gauges of the operation and for no others, and for its deadline until that comes
pub record WaitsBy (index : Index) (session : ℕ) (op : Operation) : Type 0 where
  pub gauges : (gauge : ℕ) → WaitsFor index session gauge ↔ Names op.needs gauge
  pub coming : moment_of index < op.deadline → coming_of index session ≡ Some op.deadline

-- it waits for nothing
pub record WaitsNowhere (index : Index) (session : ℕ) : Type 0 where
  pub gauges : (gauge : ℕ) → ¬ WaitsFor index session gauge
  pub coming : coming_of index session ≡ None

-- it waits exactly where this is kept of its request
abbrev pub IsIndexed : Index → ℕ → Option Parked → Type 0
IsIndexed index session None = WaitsNowhere index session
IsIndexed index session (Some parked) = WaitsBy index session parked.op

-- an operation can wait in the index, by this generation
abbrev pub MayWait : ℕ → ℕ → Index → Option Operation → Type 0
MayWait session generation index None = Unit {0}
MayWait session generation index (Some op) = (last_of index session < generation) × (op.deadline < moment_of index + 2 ^ 31)

-- it waits there from now on, where there is one, and is a suspect where its deadline has come
abbrev pub IsTaken : ℕ → ℕ → Index → Index → Option Operation → Type 0
IsTaken session generation before after None = after ≡ before
IsTaken session generation before after (Some op) = WaitsWith after session generation op × (IsSuspect after session ↔ (op.deadline ≤ moment_of before))

-- of each session this is kept; and who is no suspect isn't answerable
pub record AreWatched (index : Index) (told : List Numbers) (parked : ℕ → Option Parked) : Type 0 where
  pub indexed : (session : ℕ) → IsIndexed index session (parked session)
  pub quiet : (session : ℕ) → ¬ IsSuspect index session → IsQuiet told (moment_of index) (parked session)

-- what holds between any two steps of the broker
pub record IsWatched (watched : Watched) : Type 0 where
  pub stands : Stands watched.engine
  pub told : AreTold watched.told watched.engine.board.parts
  pub moment : moment_of watched.waiters ≡ clock_moment watched.engine.board.clock
  pub waits : AreWatched watched.waiters watched.told (parked_at watched.engine)
  -- a session waits by the number of its call
  pub generations : (session : ℕ) → last_of watched.waiters session ≤ next_call watched.engine.board session
  pub ready : (session : ℕ) → session < most_sessions → Has watched.ready session ↔ (is_ready watched.engine session ≡ true)
