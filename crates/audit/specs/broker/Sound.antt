-- What holds of a board between two steps: every call is whole or waits, in every account that goes on from the histories; and
-- followers left as they lagged.
use Rattle.std.specs.Prelude.{ℕ, ◌≡◌, ◌<◌, ◌≤◌, true, List, [], ◌∷◌, ◌++◌, length, map, ◌==◌, Option, Some, None, slice_get}
use Rattle.std.specs.List.{AllByRecursion, find}
use Rattle.std.specs.List.Sorted.{IsStrictlyIncreasing}
use Rattle.partlog.specs.declared.clock_event.ClockEvent.{ClockEvent}
use Rattle.partlog.specs.History.{History}
use Rattle.partlog.specs.Lagging.{LeftLate}
use Rattle.audit.specs.declared.account.Account.{Account}
use Rattle.audit.specs.declared.account.Call.{Call}
use Rattle.audit.specs.declared.account.CallHow.{CallHow}
use Rattle.audit.specs.declared.account.CallHow.TheVariants.{Quiet, AtOnce, Satisfied, Expired, Parked, Cut}
use Rattle.audit.specs.declared.account.Point.{Point}
use Rattle.audit.specs.declared.account.Transcript.{Transcript}
use Rattle.audit.specs.Histories.{points_of, ticks_of}
use Rattle.audit.specs.LawfulCall.{IsAcceptance, HasAccepted, IsWholeCall, is_delayed, operation_in, operation_parts}
use Rattle.kwire.specs.Configuration.{Configuration, followers_of}
use Rattle.kwire.specs.declared.config.TheConstants.{MOST_PARTITIONS}
use Rattle.trace_file.specs.declared.line.TheConstants.{MOST_SESSIONS}
use Rattle.audit.specs.broker.Board.{Board, Waiting, transcript_at}
use Rattle.audit.specs.broker.GoesOn.{Carried, AllWhole}
use Rattle.audit.specs.broker.Kept.{IsKept, owners_at}
use Rattle.audit.specs.broker.Timely.{IsTimely}

abbrev pub AllBelow : ℕ → List ℕ → Type 0
AllBelow n xs = AllByRecursion (λ x. x < n) xs

-- it waits no more, and winner 0 completed it where it did
abbrev pub IsOver : CallHow → Type 0
IsOver Quiet = Unit {0}
IsOver AtOnce = Unit {0}
IsOver (Satisfied by) = by ≡ 0
IsOver (Expired by) = by ≡ 0
IsOver Parked = ⊥
IsOver (Cut won) = ⊥

-- a call that is over, and was accepted and completed as the states ask, whatever comes after
pub record IsDone (config : Configuration) (parts : List History) (clock : List ClockEvent) (call : Call) : Type 0 where
  pub over : IsOver call.how
  pub whole : Carried config parts clock (λ account. IsWholeCall account call)

-- a call that was accepted whole, as this request, and became its operation
pub record IsDelayedAs (w : Waiting) (call : Call) (account : Account) : Type 0 where
  pub accepted : IsAcceptance account call.frame w.request w.steps
  pub looks : List Point
  pub entries : HasAccepted account w.request w.steps call.accept looks
  pub delayed : is_delayed account w.request w.steps ≡ true
  pub operation : operation_in account w.request w.steps looks ≡ w.operation

-- it waits still
pub record IsWaiting (config : Configuration) (parts : List History) (clock : List ClockEvent) (w : Waiting) (call : Call) : Type 0 where
  pub delayed : Carried config parts clock (IsDelayedAs w call)
  pub unfinished : call.finish ≡ []
  pub how : call.how ≡ Parked
  pub within : AllBelow (length parts) (operation_parts w.steps)

abbrev pub AreDone : Configuration → List History → List ClockEvent → List Call → Type 0
AreDone config parts clock calls = AllByRecursion (IsDone config parts clock) calls

-- a session whose last call waits hasn't ended
pub record WaitsLast (config : Configuration) (parts : List History) (clock : List ClockEvent) (session : ℕ) (w : Waiting) (transcript : Transcript) : Type 0 where
  pub front : List Call
  pub call : Call
  pub calls : transcript.calls ≡ front ++ call ∷ []
  pub done : AreDone config parts clock front
  pub waits : IsWaiting config parts clock w call
  pub own : w.session ≡ session
  pub going : transcript.end ≡ None

-- the calls of a session, of which this request waits or none
abbrev pub Stand : Configuration → List History → List ClockEvent → ℕ → Option Waiting → Transcript → Type 0
Stand config parts clock session None transcript = AreDone config parts clock transcript.calls
Stand config parts clock session (Some w) transcript = WaitsLast config parts clock session w transcript

pub record IsSession (config : Configuration) (parts : List History) (clock : List ClockEvent) (session : ℕ) (waits : Option Waiting) (transcript : Transcript) : Type 0 where
  pub number : transcript.number ≡ session
  pub first : transcript.first ≡ 0
  pub stand : Stand config parts clock session waits transcript

-- histories of the configuration's partitions, and a clock whose ticks rise
pub record AreHistories (config : Configuration) (parts : List History) (clock : List ClockEvent) : Type 0 where
  pub whole : AllWhole parts
  pub few : length parts ≤ MOST_PARTITIONS
  pub followers : map (λ h. h.followers) parts ≡ followers_of config.topics
  pub ticks : IsStrictlyIncreasing (0 ∷ ticks_of clock)

-- the request of a session that waits, if any
abbrev pub waiting_of : List Waiting → ℕ → Option Waiting
waiting_of waiting session = find (λ w. w.session == session) waiting

-- of one session at most one request waits
abbrev pub WaitAlone : List Waiting → Type 0
WaitAlone waiting = (i : ℕ) (w : Waiting) → slice_get waiting i ≡ Some w → waiting_of waiting w.session ≡ Some w

abbrev pub ledger_of : (ℕ → Transcript) → ℕ → List (List Point)
ledger_of transcripts session = map points_of (transcripts session).calls

-- histories, the transcripts of all sessions, and what waits
pub record AreSound (config : Configuration) (parts : List History) (clock : List ClockEvent) (waiting : List Waiting) (transcripts : ℕ → Transcript) : Type 0 where
  pub histories : AreHistories config parts clock
  pub kept : IsKept (owners_at parts clock) (ledger_of transcripts)
  pub sessions : (s : ℕ) → IsSession config parts clock s (waiting_of waiting s) (transcripts s)
  pub alone : WaitAlone waiting
  -- whoever was taken out lagged then
  pub late : (p : ℕ) (h : History) → slice_get parts p ≡ Some h → LeftLate h.followers h.events
  -- each pass's own entries are as the clock's history allows
  pub timely : (by : ℕ) → IsTimely by parts clock (ledger_of transcripts by)

pub record IsSound (board : Board) : Type 0 where
  pub count : length board.seats ≡ MOST_SESSIONS
  pub sound : AreSound board.config board.parts board.clock board.waiting (transcript_at board)
