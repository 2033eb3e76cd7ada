-- The histories of an account: who left each entry, and the states at its points.
use Rattle.std.specs.Prelude.{ℕ, ℤ, ◌+◌, ◌≡◌, ◌≤◌, ◌⊎◌, List, [], ◌∷◌, ◌++◌, Contains, map, take, ◌==◌, if◌then◌else◌, Option, Some, None, unwrap_or, slice_get}
use Rattle.std.specs.List.{flat_map, AllByRecursion}
use Rattle.partlog.specs.declared.event.PartEvent.{PartEvent}
use Rattle.partlog.specs.declared.event.PartEvent.TheVariants.{Append, Follow, Look, Shrink}
use Rattle.partlog.specs.declared.clock_event.ClockEvent.{ClockEvent}
use Rattle.partlog.specs.declared.clock_event.ClockEvent.TheVariants as clocks
use Rattle.partlog.specs.History.{History}
use Rattle.partlog.specs.State.{PartState as State, state_of, state_before, state_at}
use Rattle.partlog.specs.Moment.{moment_of}
use Rattle.partlog.specs.Lagging.{LagsAt}
use Rattle.audit.specs.declared.account.TheConstants.{CLOCK_PART}
use Rattle.audit.specs.declared.account.Account.{Account}
use Rattle.audit.specs.declared.account.PartAccount.{PartAccount}
use Rattle.audit.specs.declared.account.Transcript.{Transcript}
use Rattle.audit.specs.declared.account.Call.{Call}
use Rattle.audit.specs.declared.account.Point.{Point}

-- a pass, and the number of its call
pub record Owner : Type 0 where
  pub by : ℕ
  pub seq : ℕ

-- a follower's leave is no call's
abbrev pub owner_of : PartEvent → Option Owner
owner_of (Append by seq count len) = Some (record { by = by; seq = seq })
owner_of (Follow by seq replica offset t) = Some (record { by = by; seq = seq })
owner_of (Look by seq) = Some (record { by = by; seq = seq })
owner_of (Shrink by replica t) = None

-- nor is a tick
abbrev pub clock_owner_of : ClockEvent → Option Owner
clock_owner_of (clocks.Tick t) = None
clock_owner_of (clocks.Look by seq) = Some (record { by = by; seq = seq })

abbrev pub ticks_of : List ClockEvent → List ℕ
ticks_of [] = []
ticks_of (clocks.Tick t ∷ events) = t ∷ ticks_of events
ticks_of (clocks.Look by seq ∷ events) = ticks_of events

-- a partition's history in an account
abbrev pub part_account : History → PartAccount
part_account h = record { followers = h.followers; log = h.log; events = h.events }

-- the clock stands behind the partitions' numbers
abbrev pub clock_part : ℕ
clock_part = CLOCK_PART

abbrev pub owners_in : Option PartAccount → List (Option Owner)
owners_in None = []
owners_in (Some part) = map owner_of part.events

-- who left the entries of one history
abbrev pub owners_of : Account → ℕ → List (Option Owner)
owners_of account part =
    if part == clock_part then map clock_owner_of account.clock else owners_in (slice_get account.parts part)

-- the calls of one pass, in order over its transcripts
abbrev pub calls_in : List Transcript → List Call
calls_in transcripts = flat_map (λ transcript. transcript.calls) transcripts

abbrev pub calls_of : Account → ℕ → List Call
calls_of account pass = calls_in (unwrap_or (slice_get account.passes pass) [])

abbrev pub call_of : Account → ℕ → ℕ → Option Call
call_of account pass seq = slice_get (calls_of account pass) seq

abbrev pub all_calls : Account → List Call
all_calls account = flat_map calls_in account.passes

-- the entries that a call left, those of its acceptance first
abbrev pub points_of : Call → List Point
points_of call = call.accept ++ call.finish

-- a partition of which nothing is known
abbrev pub no_state : State
no_state = record { batches = []; log_end = 0; high = 0; insync = 0 }

abbrev pub history_of : PartAccount → History
history_of part = record { log = part.log; followers = part.followers; events = part.events }

abbrev pub before_in : Option PartAccount → ℕ → State
before_in None place = no_state
before_in (Some part) place = state_before (history_of part) place

abbrev pub at_in : Option PartAccount → ℕ → State
at_in None place = no_state
at_in (Some part) place = state_at (history_of part) place

abbrev pub final_in : Option PartAccount → State
final_in None = no_state
final_in (Some part) = state_of (history_of part)

-- the state of a point's partition before the entry there, just after it, and at the end
abbrev pub before_point : Account → Point → State
before_point account point = before_in (slice_get account.parts point.part) point.place

abbrev pub at_point : Account → Point → State
at_point account point = at_in (slice_get account.parts point.part) point.place

abbrev pub final_state : Account → ℕ → State
final_state account part = final_in (slice_get account.parts part)

abbrev pub event_in : Option PartAccount → ℕ → Option PartEvent
event_in None place = None
event_in (Some part) place = slice_get part.events place

abbrev pub event_at : Account → Point → Option PartEvent
event_at account point = event_in (slice_get account.parts point.part) point.place

-- the clock's moment just after the entry at a place of its history
abbrev pub moment_at : Account → Point → ℕ
moment_at account point = moment_of (take (point.place + 1) account.clock)

-- 0, or a moment that the clock was told
abbrev pub IsToldMoment : List ClockEvent → ℕ → Type 0
IsToldMoment clock t = (t ≡ 0) ⊎ Contains (ticks_of clock) t

-- none of these points that are the clock's is at a later moment
abbrev pub AreNotLater : List ClockEvent → ℕ → List Point → Type 0
AreNotLater clock t points =
    AllByRecursion (λ point. point.part ≡ clock_part → moment_of (take (point.place + 1) clock) ≤ t) points

-- the replica lagged at this moment, by the history before this place
abbrev pub HadLagged : Option PartAccount → ℕ → ℕ → ℤ → Type 0
HadLagged None place t replica = ⊥
HadLagged (Some part) place t replica = LagsAt part.followers (take place part.events) t replica
