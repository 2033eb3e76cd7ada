-- The nine facts of a sound state, each of the tables that it names.
use Rattle.std.specs.Prelude.{◌≡◌, ◌≢◌, ◌⊎◌, ℕ, ◌+◌, ◌<◌, ◌≤◌, true, Option, Some, None}
use Rattle.room_core.specs.Numbers.{clock_mark}
use Rattle.room_core.specs.declared.event.How.{How}
use Rattle.room_core.specs.declared.parts.Phase.{Phase}
use Rattle.room_core.specs.declared.parts.Phase.TheVariants.{Won}
use Rattle.room_core.specs.declared.parts.Session.{Session}
use Rattle.room_core.specs.declared.parts.Source.{Source}
use Rattle.room_core.specs.declared.parts.Stage.{Stage}
use Rattle.room_core.specs.declared.parts.Stage.TheVariants.{Listing, Checking, Waiting, Over}
use Rattle.room_core.specs.declared.parts.Heard.{Heard}
use Rattle.room_core.specs.declared.parts.Entry.{Entry}
use Rattle.room_core.specs.declared.parts.Meeting.{Meeting}
use Rattle.room_core.specs.declared.shape.Shape.{Shape}
use Rattle.room_core.specs.Gauges.{IsGauge, clock_of, scanner_of}
use Rattle.room_core.specs.Description.{IsOperation, IsMark, needs_of, deadline_of, gauge_of, marked_gauge}
use Rattle.room_core.specs.Duty.{IsOpen, IsOpenIn, IsFoundByTally, IsFoundByTime, IsLate, IsSatisfiedNow}
use Rattle.room_core.specs.Wins.{prizes_as, taken_as, won_as, taken_at, won_at, wins_of}
use Rattle.room_core.specs.State.{State, Caller, Scanner}

-- For each gauge begun is at most asked, asked at most value, and value is what its source stored. Value is above asked only
-- where the source is loud. Begun is the number that the gauge's scanner keeps as the greatest with which it began.
pub record ValuesAreSound (shape : Shape) (value_at asked_at begun_at : ℕ → ℕ) (source_at : ℕ → Source) (scanner_at : ℕ → Scanner) : Type 0 where
  pub begun : (gauge : ℕ) → begun_at gauge ≤ asked_at gauge
  pub asked : (gauge : ℕ) → asked_at gauge ≤ value_at gauge
  pub stored : (gauge : ℕ) → value_at gauge ≡ (source_at gauge).stored
  pub loud : (gauge : ℕ) → asked_at gauge < value_at gauge → (source_at gauge).loud ≡ true
  pub own : (gauge : ℕ) → IsGauge shape gauge → begun_at gauge ≡ (scanner_at (scanner_of shape gauge)).began gauge

-- some pass owes a scan up to at least this number
pub record IsOwed (caller : ℕ → Caller) (gauge number : ℕ) : Type 0 where
  pub pass : ℕ
  pub owes : number ≤ (caller pass).owed gauge

-- Each number owed is at most asked, and so is what was heard. Where asked is above begun, some caller owes at least asked.
pub record DebtsAreSound (asked_at begun_at : ℕ → ℕ) (caller_at : ℕ → Caller) (scanner_at : ℕ → Scanner) : Type 0 where
  pub owed : (pass gauge : ℕ) → (caller_at pass).owed gauge ≤ asked_at gauge
  pub heard : (scanner : ℕ) (heard : Heard) → (scanner_at scanner).heard ≡ Some heard → heard.number ≤ asked_at heard.gauge
  pub someone : (gauge : ℕ) → begun_at gauge < asked_at gauge → IsOwed caller_at gauge (asked_at gauge)

-- No reading, and no greatest value that a caller has read, is above its gauge's value.
pub record ReadingsAreSound (value_at : ℕ → ℕ) (caller_at : ℕ → Caller) (scanner_at : ℕ → Scanner) : Type 0 where
  pub greatest : (pass gauge : ℕ) → (caller_at pass).greatest gauge ≤ value_at gauge
  pub owner : (pass gauge value : ℕ) → (caller_at pass).readings gauge ≡ Some value → value ≤ value_at gauge
  pub scanner : (scanner gauge value : ℕ) → (scanner_at scanner).readings gauge ≡ Some value → value ≤ value_at gauge

-- the word is idle exactly where its owner is, won as Over says, else open or won
abbrev pub Agree : Stage → Phase → Type 0
Agree Stage.Idle phase = phase ≡ Phase.Idle
Agree (Over how by) phase = phase ≡ Won how by
Agree Listing phase = phase ≢ Phase.Idle
Agree Checking phase = phase ≢ Phase.Idle
Agree Waiting phase = phase ≢ Phase.Idle

-- Each pass's generation and description are those that its owner keeps. Each word agrees with its owner's stage. While the
-- stage isn't Idle the description is a valid operation.
pub record OwnersAreSound (shape : Shape) (session_at : ℕ → Session) (description_at : ℕ → ℕ → ℕ) (caller_at : ℕ → Caller) : Type 0 where
  pub generation : (pass : ℕ) → (session_at pass).generation ≡ (caller_at pass).generation
  pub description : (pass at : ℕ) → description_at pass at ≡ (caller_at pass).description at
  pub stage : (pass : ℕ) → Agree (caller_at pass).stage (session_at pass).phase
  pub operation : (pass : ℕ) → (caller_at pass).stage ≢ Stage.Idle → IsOperation shape (description_at pass)

-- What a meeting has learned equals the description while that generation is open. No meeting, entry, mark or item taken names
-- a generation above the pass's, and while the pass's stage isn't Idle no item taken names the pass's generation. A meeting's
-- generation is at least that of each entry of its pass in the same listing.
pub record GenerationsAreSound (session_at : ℕ → Session) (description_at marks_at : ℕ → ℕ → ℕ) (caller_at : ℕ → Caller) (scanner_at : ℕ → Scanner) : Type 0 where
  pub learned : (scanner at word : ℕ) (meeting : Meeting) → (scanner_at scanner).meeting ≡ Some meeting
      → IsOpenIn session_at meeting.pass → (session_at meeting.pass).generation ≡ meeting.generation
      → (scanner_at scanner).learned at ≡ Some word → word ≡ description_at meeting.pass at
  pub meeting : (scanner : ℕ) (meeting : Meeting) → (scanner_at scanner).meeting ≡ Some meeting
      → meeting.generation ≤ (session_at meeting.pass).generation
  pub entry : (scanner gauge pass : ℕ) (entry : Entry) → (scanner_at scanner).listing gauge pass ≡ Some entry
      → entry.generation ≤ (session_at pass).generation
  pub mark : (pass i : ℕ) → marks_at pass i ≤ (session_at pass).generation
  pub taken : (pass generation : ℕ) → (session_at pass).generation < generation → taken_at (caller_at pass).taken generation ≡ 0
  pub untaken : (pass : ℕ) → (caller_at pass).stage ≢ Stage.Idle → taken_at (caller_at pass).taken (session_at pass).generation ≡ 0
  pub newest : (scanner gauge : ℕ) (meeting : Meeting) (entry : Entry) → (scanner_at scanner).meeting ≡ Some meeting
      → (scanner_at scanner).listing gauge meeting.pass ≡ Some entry → entry.generation ≤ meeting.generation

-- an entry of this generation
abbrev pub IsEntry : Option Entry → ℕ → Type 0
IsEntry None generation = ⊥
IsEntry (Some entry) generation = entry.generation ≡ generation

-- the listing of a gauge has the open operation
abbrev pub IsListed : Shape → (ℕ → Scanner) → (ℕ → Session) → ℕ → ℕ → Type 0
IsListed shape scanner_at session_at gauge pass = IsEntry ((scanner_at (scanner_of shape gauge)).listing gauge pass) (session_at pass).generation

-- a need's gauge
pub record IsNeeded (words : ℕ → ℕ) (gauge : ℕ) : Type 0 where
  pub need : ℕ
  pub within : need < needs_of words
  pub is : gauge_of words need ≡ gauge

-- the entry's gauge is a need's, or it is the clock and has the deadline
abbrev pub IsRightEntry : Shape → (ℕ → ℕ → ℕ) → ℕ → ℕ → Entry → Type 0
IsRightEntry shape description_at gauge pass entry =
    IsNeeded (description_at pass) gauge ⊎ ((gauge ≡ clock_of shape) × (entry.deadline ≡ deadline_of (description_at pass)))

-- A mark that holds the open generation means that the listing of its gauge, or of the clock, has the entry. So does a mark seen
-- by an owner whose generation is open. An open operation whose owner isn't Listing has all its entries. An entry of an open
-- generation has a gauge of the operation, and the clock's entry its deadline.
pub record ListingsAreSound (shape : Shape) (session_at : ℕ → Session) (description_at marks_at : ℕ → ℕ → ℕ) (caller_at : ℕ → Caller) (scanner_at : ℕ → Scanner) : Type 0 where
  pub marked : (pass i : ℕ) → IsOpenIn session_at pass → i ≤ clock_mark → marks_at pass i ≡ (session_at pass).generation
      → IsListed shape scanner_at session_at (marked_gauge shape (description_at pass) i) pass
  pub seen : (pass i : ℕ) → IsOpenIn session_at pass → i ≤ clock_mark → (caller_at pass).seen i ≡ true
      → IsListed shape scanner_at session_at (marked_gauge shape (description_at pass) i) pass
  pub complete : (pass i : ℕ) → IsOpenIn session_at pass → (caller_at pass).stage ≢ Listing → IsMark (description_at pass) i
      → IsListed shape scanner_at session_at (marked_gauge shape (description_at pass) i) pass
  pub right : (scanner gauge pass : ℕ) (entry : Entry) → IsOpenIn session_at pass → (scanner_at scanner).listing gauge pass ≡ Some entry
      → entry.generation ≡ (session_at pass).generation → IsRightEntry shape description_at gauge pass entry

-- An open satisfied operation has a tally duty that finds it, or a need's gauge with value above begun.
abbrev pub TallyIsSound : State → Type 0
TallyIsSound s = (pass : ℕ) → IsOpen s pass → IsSatisfiedNow s pass
    → IsFoundByTally s pass ⊎ IsLate (s.description pass) s.value s.begun

-- An open operation whose deadline is at most the clock's begun has a time duty that finds it.
abbrev pub TimeIsSound : State → Type 0
TimeIsSound s = (pass : ℕ) → IsOpen s pass → deadline_of (s.description pass) ≤ s.begun (clock_of s.shape) → IsFoundByTime s pass

-- Each won word, and each item taken, stands in the wins of exactly the winner that it names, once, and no wins hold anything else.
pub record WinsAreSound (session_at : ℕ → Session) (caller_at : ℕ → Caller) (scanner_at : ℕ → Scanner) : Type 0 where
  pub counted : (by pass generation : ℕ) (how : How) → prizes_as (wins_of scanner_at caller_at by) pass generation how
      ≡ taken_as (caller_at pass).taken generation how by + won_as (session_at pass) generation how by
  pub once : (pass generation : ℕ) → taken_at (caller_at pass).taken generation + won_at (session_at pass) generation ≤ 1

pub record IsSound (s : State) : Type 0 where
  pub values : ValuesAreSound s.shape s.value s.asked s.begun s.source s.scanner
  pub debts : DebtsAreSound s.asked s.begun s.caller s.scanner
  pub readings : ReadingsAreSound s.value s.caller s.scanner
  pub owners : OwnersAreSound s.shape s.session s.description s.caller
  pub generations : GenerationsAreSound s.session s.description s.marks s.caller s.scanner
  pub listings : ListingsAreSound s.shape s.session s.description s.marks s.caller s.scanner
  pub tally : TallyIsSound s
  pub time : TimeIsSound s
  pub wins : WinsAreSound s.session s.caller s.scanner
