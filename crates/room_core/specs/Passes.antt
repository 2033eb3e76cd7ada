-- The events of a pass as the owner of its operation: it describes and opens it, sees it listed, sees how it ended, and takes
-- that.
use Rattle.std.specs.Prelude.{◌≡◌, ◌≢◌, ℕ, zero, suc, ◌+◌, ◌-◌, ◌^◌, ◌<◌, ◌≤◌, Bool, true, false, ◌&&◌, ◌==◌, if◌then◌else◌, List, [], ◌∷◌, ◌++◌, ⊤}
use Rattle.room_core.specs.Numbers.{description_words, clock_mark}
use Rattle.room_core.specs.declared.shape.Shape.{Shape}
use Rattle.room_core.specs.declared.parts.Phase.{Phase}
use Rattle.room_core.specs.declared.parts.Phase.TheVariants.{Open, Won}
use Rattle.room_core.specs.declared.parts.Stage.{Stage}
use Rattle.room_core.specs.declared.parts.Stage.TheVariants.{Listing, Checking, Waiting, Over}
use Rattle.room_core.specs.declared.parts.Taken.{Taken}
use Rattle.room_core.specs.Put.{put}
use Rattle.room_core.specs.Gauges.{IsPass}
use Rattle.room_core.specs.Description.{IsMark, IsOperation, needs_of}
use Rattle.room_core.specs.Readings.{unread}
use Rattle.room_core.specs.State.{State, Caller}

-- Describe: the pass is idle. One word of the description is written.
abbrev pub caller_describes : Caller → ℕ → ℕ → Caller
caller_describes caller at word = record caller { description = put caller.description at word }

abbrev pub MayDescribe : Shape → ℕ → Caller → ℕ → Type 0
MayDescribe shape pass caller at = IsPass shape pass × (at < description_words) × (caller.stage ≡ Stage.Idle)

abbrev pub CanDescribe : State → ℕ → ℕ → Type 0
CanDescribe s pass at = MayDescribe s.shape pass (s.caller pass) at

abbrev pub describing : State → ℕ → ℕ → ℕ → State
describing s pass at word = record s {
  description = put s.description pass (put (s.description pass) at word);
  caller = put s.caller pass (caller_describes (s.caller pass) at word);
}

-- Open: the pass is idle, what it described is an operation, and there is a next generation. The word is open at that, and
-- the pass is Listing with no mark seen.
abbrev pub caller_opens : Caller → Caller
caller_opens caller = record caller {
  generation = caller.generation + 1;
  stage = Listing;
  seen = λ i. false;
  readings = unread;
}

abbrev pub MayOpen : Shape → ℕ → Caller → Type 0
MayOpen shape pass caller = IsPass shape pass × (caller.stage ≡ Stage.Idle) × IsOperation shape caller.description × (caller.generation < 2 ^ 32 - 1)

abbrev pub CanOpen : State → ℕ → Type 0
CanOpen s pass = MayOpen s.shape pass (s.caller pass)

abbrev pub opening : State → ℕ → State
opening s pass = record s {
  session = put s.session pass (record { generation = (s.caller pass).generation + 1; phase = Open });
  caller = put s.caller pass (caller_opens (s.caller pass));
}

-- all of the first n
unfoldable pub all_below : (ℕ → Bool) → ℕ → Bool
all_below f zero = true
all_below f (suc n) = all_below f n && f n

-- every mark of the operation
abbrev pub all_seen : (ℕ → ℕ) → (ℕ → Bool) → Bool
all_seen words seen = all_below seen (needs_of words) && seen clock_mark

-- Marked: the pass is Listing, and the mark is one of its operation's. It is seen where it holds the generation; with the
-- last one the pass is Checking, and has no readings.
abbrev pub seen_with : Caller → ℕ → ℕ → ℕ → Bool
seen_with caller at mark = put caller.seen at (if mark == caller.generation then true else caller.seen at)

abbrev pub caller_sees_mark : Caller → ℕ → ℕ → Caller
caller_sees_mark caller at mark = record caller {
  seen = seen_with caller at mark;
  stage = if all_seen caller.description (seen_with caller at mark) then Checking else Listing;
  readings = unread;
}

abbrev pub MaySeeMark : Shape → ℕ → Caller → ℕ → Type 0
MaySeeMark shape pass caller at = IsPass shape pass × (at ≤ clock_mark) × (caller.stage ≡ Listing) × IsMark caller.description at

abbrev pub CanSeeMark : State → ℕ → ℕ → Type 0
CanSeeMark s pass at = MaySeeMark s.shape pass (s.caller pass) at

abbrev pub seeing_mark : State → ℕ → ℕ → State
seeing_mark s pass at = record s { caller = put s.caller pass (caller_sees_mark (s.caller pass) at (s.marks pass at)) }

-- Peek: the pass isn't idle. Where its word is won, it is Over, and knows how and by whom.
unfoldable pub peeked : Phase → Stage → Stage
peeked (Won how by) stage = Over how by
peeked Phase.Idle stage = stage
peeked Open stage = stage

abbrev pub caller_peeks : Caller → Phase → Caller
caller_peeks caller phase = record caller { stage = peeked phase caller.stage }

abbrev pub MayPeek : Shape → ℕ → Caller → Type 0
MayPeek shape pass caller = IsPass shape pass × (caller.stage ≢ Stage.Idle)

abbrev pub CanPeek : State → ℕ → Type 0
CanPeek s pass = MayPeek s.shape pass (s.caller pass)

abbrev pub peeking : State → ℕ → State
peeking s pass = record s { caller = put s.caller pass (caller_peeks (s.caller pass) (s.session pass).phase) }

abbrev pub IsOver : Stage → Type 0
IsOver (Over how by) = ⊤
IsOver Stage.Idle = ⊥
IsOver Listing = ⊥
IsOver Checking = ⊥
IsOver Waiting = ⊥

-- what a stage leaves to take
unfoldable pub taken_of : Stage → ℕ → List Taken
taken_of (Over how by) generation = record { generation = generation; how = how; by = by } ∷ []
taken_of Stage.Idle generation = []
taken_of Listing generation = []
taken_of Checking generation = []
taken_of Waiting generation = []

-- Idle: the pass is Over. The word is idle at its generation; how and by whom are taken; the pass is idle.
abbrev pub caller_idles : Caller → Caller
caller_idles caller = record caller { stage = Stage.Idle; taken = caller.taken ++ taken_of caller.stage caller.generation }

abbrev pub MayIdle : Shape → ℕ → Caller → Type 0
MayIdle shape pass caller = IsPass shape pass × IsOver caller.stage

abbrev pub CanIdle : State → ℕ → Type 0
CanIdle s pass = MayIdle s.shape pass (s.caller pass)

abbrev pub idling : State → ℕ → State
idling s pass = record s {
  session = put s.session pass (record { generation = (s.caller pass).generation; phase = Phase.Idle });
  caller = put s.caller pass (caller_idles (s.caller pass));
}
