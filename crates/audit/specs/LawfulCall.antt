-- What a lawful call is: its acceptance by the states that its entries found, and its completion by the states that its
-- last entries show.
use Rattle.std.specs.Prelude.{ℕ, ◌≡◌, ◌⊎◌, Bool, true, false, List, [], ◌∷◌, ◌++◌, map, take, Option, Some, None, slice_get}
use Rattle.std.specs.List.{filter_map, AllZip}
use Rattle.partlog.specs.declared.event.PartEvent.TheVariants.{Follow, Look}
use Rattle.partlog.specs.declared.clock_event.ClockEvent.TheVariants as clocks
use Rattle.partlog.specs.State.{PartState as State}
use Rattle.partlog.specs.Moment.{moment_of}
use Rattle.kbatch.specs.Stamp.{stamped}
use Rattle.audit.specs.declared.account.Account.{Account}
use Rattle.audit.specs.declared.account.Call.{Call}
use Rattle.audit.specs.declared.account.CallHow.{CallHow}
use Rattle.audit.specs.declared.account.CallHow.TheVariants.{Quiet, AtOnce, Satisfied, Expired, Parked, Cut}
use Rattle.audit.specs.declared.account.Point.{Point}
use Rattle.kwire.specs.declared.request.Request.{Request}
use Rattle.kanswer.specs.declared.accepted.Accepted.{Accepted}
use Rattle.kanswer.specs.declared.accepted.Accepted.TheVariants.{Refused, Appended, Seen}
use Rattle.kwire.specs.IsRequest.{IsRequest}
use Rattle.opcond.specs.Tally.{IsSatisfied, IsOverdue, IsAnswerable}
use Rattle.opcond.specs.Operation.{Operation}
use Rattle.kanswer.specs.Decisions.{Entry, Put, Followed, Looked, Outcome, Decision, Refuse, AskLog, Decides}
use Rattle.kanswer.specs.Waiting.{Shown, operation_of, values_of, results_of, becomes_delayed, is_quiet}
use Rattle.audit.specs.Histories.{clock_part, no_state, before_point, at_point, final_state, event_at, moment_at}

-- what became of a named partition, and the point of its entry, where it left one
pub record Step : Type 0 where
  pub result : Accepted
  pub point : Option Point

-- The entry at a point is of this kind. An append puts the batch at the log end, with its base offset and the leader epoch
-- written into it, and nothing else.
abbrev pub IsEntry : Account → Point → Entry → Type 0
IsEntry account point (Put count batch) =
    (at_point account point).batches
    ≡ (before_point account point).batches ++ record { base = (before_point account point).log_end; count = count; bytes = stamped (before_point account point).log_end batch } ∷ []
IsEntry account point (Followed replica offset) =
    (by : ℕ) × (seq : ℕ) × (t : ℕ) × (event_at account point ≡ Some (Follow by seq replica offset t))
IsEntry account point Looked = (by : ℕ) × (seq : ℕ) × (event_at account point ≡ Some (Look by seq))

-- the outcome is that of the state which the entry found
pub record AsksLog (account : Account) (part : ℕ) (outcome : State → Outcome) (step : Step) : Type 0 where
  pub point : Point
  pub left : step.point ≡ Some point
  pub there : point.part ≡ part
  pub result : step.result ≡ (outcome (before_point account point)).result
  pub entry : IsEntry account point (outcome (before_point account point)).entry

abbrev pub IsStep : Account → Decision → Step → Type 0
IsStep account (Refuse code) step = step ≡ record { result = Refused code; point = None }
IsStep account (AskLog part outcome) step = AsksLog account part outcome step

abbrev pub step_points : List Step → List Point
step_points steps = filter_map (λ step. step.point) steps

abbrev pub shown_at : Account → Option Point → State
shown_at account None = no_state
shown_at account (Some point) = at_point account point

-- what became of each named partition, with the state just after its entry
abbrev pub shown_as_accepted : Account → List Step → List Shown
shown_as_accepted account steps = map (λ step. record { result = step.result; state = shown_at account step.point }) steps

abbrev pub IsLook : Account → ℕ → Point → Type 0
IsLook account part point = (point.part ≡ part) × (by : ℕ) × (seq : ℕ) × (event_at account point ≡ Some (Look by seq))

abbrev pub IsClockLook : Account → Point → Type 0
IsClockLook account point =
    (point.part ≡ clock_part) × (by : ℕ) × (seq : ℕ) × (slice_get account.clock point.place ≡ Some (clocks.Look by seq))

-- the clock is looked at exactly where the request is delayed
abbrev pub LooksAtClock : Account → Bool → List Point → Type 0
LooksAtClock account true looks = (point : Point) × (looks ≡ point ∷ []) × IsClockLook account point
LooksAtClock account false looks = looks ≡ []

abbrev pub moment_among : Account → List Point → ℕ
moment_among account [] = 0
moment_among account (point ∷ points) = moment_at account point

-- a request, and what became of each partition that it names
pub record IsAcceptance (account : Account) (frame : List ℕ) (request : Request) (steps : List Step) : Type 0 where
  pub asked : IsRequest frame request
  pub decisions : List Decision
  pub decided : Decides account.config request.ask decisions
  pub each : AllZip (IsStep account) decisions steps

-- the entries of a whole acceptance: one for each partition whose log was asked, then the look at the clock
pub record HasAccepted (account : Account) (request : Request) (steps : List Step) (accept looks : List Point) : Type 0 where
  pub points : accept ≡ step_points steps ++ looks
  pub clock : LooksAtClock account (becomes_delayed request.ask (shown_as_accepted account steps)) looks

abbrev pub operation_in : Account → Request → List Step → List Point → Operation
operation_in account request steps looks =
    operation_of request.ask (results_of (shown_as_accepted account steps)) (moment_among account looks)

-- the partitions of the operation, in the order of the request
abbrev pub part_in : Accepted → Option ℕ
part_in (Refused code) = None
part_in (Appended part base count) = Some part
part_in (Seen part start) = Some part

abbrev pub operation_parts : List Step → List ℕ
operation_parts steps = filter_map (λ step. part_in step.result) steps

-- one list where there is no partition, and the other where there is one
abbrev pub by_part : Option ℕ → List Shown → List Shown → List Shown
by_part None none some = none
by_part (Some part) none some = some

-- what became of each named partition, with the state at its last look; a refused one takes no look
abbrev pub shown_as_completed : Account → List Step → List Point → List Shown
shown_as_completed account [] points = []
shown_as_completed account (step ∷ steps) [] = record { result = step.result; state = no_state } ∷ shown_as_completed account steps []
shown_as_completed account (step ∷ steps) (point ∷ points) =
    by_part (part_in step.result)
    (record { result = step.result; state = no_state } ∷ shown_as_completed account steps (point ∷ points))
    (record { result = step.result; state = at_point account point } ∷ shown_as_completed account steps points)

-- the same with each partition's last state of all
abbrev pub final_of : Account → Option ℕ → State
final_of account None = no_state
final_of account (Some part) = final_state account part

abbrev pub shown_at_last : Account → List Step → List Shown
shown_at_last account steps = map (λ step. record { result = step.result; state = final_of account (part_in step.result) }) steps

-- one look for each partition of the operation, in the order of the request
abbrev pub AreLooks : Account → List Step → List Point → Type 0
AreLooks account steps points = AllZip (IsLook account) (operation_parts steps) points

-- a look at the clock, and then such looks
abbrev pub AreLooksAfterClock : Account → List Step → List Point → Type 0
AreLooksAfterClock account steps [] = ⊥
AreLooksAfterClock account steps (point ∷ points) = IsClockLook account point × AreLooks account steps points

-- such looks at the first so many of these partitions alone
abbrev pub AreFirstLooks : Account → List Step → List Point → Type 0
AreFirstLooks account steps points = (reached : ℕ) × AllZip (IsLook account) (take reached (operation_parts steps)) points

abbrev pub AreFirstLooksAfterClock : Account → List Step → List Point → Type 0
AreFirstLooksAfterClock account steps [] = ⊥
AreFirstLooksAfterClock account steps (point ∷ points) = IsClockLook account point × AreFirstLooks account steps points

abbrev pub is_delayed : Account → Request → List Step → Bool
is_delayed account request steps = becomes_delayed request.ask (shown_as_accepted account steps)

-- the states at these looks satisfy the request
abbrev pub IsSatisfiedAt : Account → Request → List Step → List Point → List Point → Type 0
IsSatisfiedAt account request steps looks finish =
    IsSatisfied (operation_in account request steps looks) (values_of request.ask (shown_as_completed account steps finish))

-- the moment at the first of these is at least the request's deadline
abbrev pub IsOverdueAt : Account → Request → List Step → List Point → List Point → Type 0
IsOverdueAt account request steps looks finish =
    IsOverdue (operation_in account request steps looks) (moment_among account finish)

-- The completion of a satisfied request was cut off behind so many of its looks; where these are all, their states satisfy it.
-- Of the partitions that weren't reached nothing is asked.
pub record IsCutAsSatisfied (account : Account) (request : Request) (steps : List Step) (looks finish : List Point) : Type 0 where
  pub first : AreFirstLooks account steps finish
  pub satisfied : AreLooks account steps finish → IsSatisfiedAt account request steps looks finish

-- that of an expired one, behind its look at the clock or later
pub record IsCutAsExpired (account : Account) (request : Request) (steps : List Step) (looks finish : List Point) : Type 0 where
  pub first : AreFirstLooksAfterClock account steps finish
  pub overdue : IsOverdueAt account request steps looks finish

-- what the last entries of a call that was accepted whole are, by how it came to its end
abbrev pub Completes : Account → Request → List Step → List Point → List Point → CallHow → Type 0
-- it asks for no reply
Completes account request steps looks finish Quiet = (is_quiet request.ask ≡ true) × (finish ≡ [])
-- it needn't wait
Completes account request steps looks finish AtOnce =
    (is_quiet request.ask ≡ false) × (is_delayed account request steps ≡ false) × (finish ≡ [])
-- the states at its looks satisfy it
Completes account request steps looks finish (Satisfied by) =
    (is_delayed account request steps ≡ true) × AreLooks account steps finish × IsSatisfiedAt account request steps looks finish
-- the moment at its look at the clock is at least the deadline
Completes account request steps looks finish (Expired by) =
    (is_delayed account request steps ≡ true) × AreLooksAfterClock account steps finish × IsOverdueAt account request steps looks finish
-- it waits, and isn't answerable at the end
Completes account request steps looks finish Parked =
    (is_delayed account request steps ≡ true) × (finish ≡ [])
    × (IsAnswerable (operation_in account request steps looks) (values_of request.ask (shown_at_last account steps)) (moment_of account.clock) → ⊥)
-- it ran out of memory before anyone had won its operation, or with none
Completes account request steps looks finish (Cut None) = finish ≡ []
-- it was won, and ran out of memory amid its last entries or behind them
Completes account request steps looks finish (Cut (Some by)) =
    (is_delayed account request steps ≡ true)
    × (IsCutAsSatisfied account request steps looks finish ⊎ IsCutAsExpired account request steps looks finish)

-- A call was accepted whole: its frame is this request, these steps are what became of the partitions that it names, and
-- their points and the look at the clock are the entries of the call's own acceptance.
pub record IsAccepted (account : Account) (call : Call) : Type 0 where
  pub request : Request
  pub steps : List Step
  pub looks : List Point
  pub accepted : IsAcceptance account call.frame request steps
  pub entries : HasAccepted account request steps call.accept looks

-- a call that was accepted whole, and came to its end as its last entries show
pub record IsWholeCall (account : Account) (call : Call) : Type 0 where
  pub whole : IsAccepted account call
  pub completed : Completes account whole.request whole.steps whole.looks call.finish call.how

-- a call that ran out of memory as it was accepted: the entries for the first of its partitions, from the front
pub record IsCutShort (account : Account) (call : Call) : Type 0 where
  pub request : Request
  pub is_request : IsRequest call.frame request
  pub decisions : List Decision
  pub decided : Decides account.config request.ask decisions
  pub reached : ℕ
  pub steps : List Step
  pub each : AllZip (IsStep account) (take reached decisions) steps
  pub points : call.accept ≡ step_points steps
  pub unfinished : call.finish ≡ []
  pub how : call.how ≡ Cut None

abbrev pub IsLawfulCall : Account → Call → Type 0
IsLawfulCall account call = IsWholeCall account call ⊎ IsCutShort account call
