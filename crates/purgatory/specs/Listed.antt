-- An operation that a pass describes, opens, sees listed, and checks.
use Rattle.std.specs.Prelude.{◌≡◌, ◌≢◌, ℕ, ◌+◌, ◌<◌, true, false, List, Some, All, length, slice_index_or}
use Rattle.opcond.specs.declared.need.Need.{Need}
use Rattle.opcond.specs.Operation.{Operation}
use Rattle.opcond.specs.Tally.{IsOverdue, IsSatisfied}
use Rattle.room_core.specs.declared.event.How.{How}
use Rattle.room_core.specs.declared.event.How.TheVariants.{Expired, Satisfied}
use Rattle.room_core.specs.declared.parts.Stage.{Stage}
use Rattle.room_core.specs.Description.{deadline_of, least_of, need_of, needs_of}
use Rattle.room_core.specs.Gauges.{clock_of}
use Rattle.room_core.specs.Numbers.{clock_mark}
use Rattle.room_core.specs.State.{Caller}
use Rattle.room_table.specs.declared.part.CallerStep.{CallerStep}
use Rattle.room_table.specs.Seats.{CallerView, caller_did, caller_now}
use Rattle.purgatory.specs.declared.outcome.Done.{Done}
use Rattle.purgatory.specs.declared.outcome.Registered.{Registered}
use Rattle.purgatory.specs.Going.{GoesOn}
use Rattle.purgatory.specs.Polled.{took}
use Rattle.purgatory.specs.Registered.{have_read}

-- the caller with another description
abbrev pub with_words : Caller → (ℕ → ℕ) → Caller
with_words caller words = record caller { description = words }

-- the words of the first needs
abbrev pub AreDescribed : List Need → ℕ → (ℕ → ℕ) → Type 0
AreDescribed needs count words = (i : ℕ) (need : Need) → i < count → need_of words i ≡ slice_index_or needs i need

-- the words are those of the operation
pub record IsDescribed (op : Operation) (words : ℕ → ℕ) : Type 0 where
  pub least : least_of words ≡ op.least
  pub deadline : deadline_of words ≡ op.deadline
  pub count : needs_of words ≡ length op.needs
  pub needs : AreDescribed op.needs (length op.needs) words

-- nothing changed but the description
pub record Describes (old new : CallerView) : Type 0 where
  pub went : GoesOn old new
  pub same : caller_now new ≡ with_words (caller_now old) (caller_now new).description

-- a word of the description stands there: the pass wrote it, or found it there
pub record HasWritten (at word : ℕ) (old new : CallerView) : Type 0 where
  pub describes : Describes old new
  pub here : (caller_now new).description at ≡ word
  pub others : (i : ℕ) → i ≢ at → (caller_now new).description i ≡ (caller_now old).description i

-- so do the three words of a need
pub record HasWrittenNeed (at : ℕ) (need : Need) (old new : CallerView) : Type 0 where
  pub describes : Describes old new
  pub gauge : (caller_now new).description at ≡ need.gauge
  pub start : (caller_now new).description (at + 1) ≡ need.start
  pub cap : (caller_now new).description (at + 2) ≡ need.cap
  pub before : (i : ℕ) → i < at → (caller_now new).description i ≡ (caller_now old).description i

-- which operation it is, what is owed and what was taken are as they were
pub record KeepsAccount (old new : Caller) : Type 0 where
  pub generation : new.generation ≡ old.generation
  pub description : new.description ≡ old.description
  pub owed : new.owed ≡ old.owed
  pub taken : new.taken ≡ old.taken

-- the pass goes on with the same operation
pub record Keeps (old new : CallerView) : Type 0 where
  pub went : GoesOn old new
  pub account : KeepsAccount (caller_now old) (caller_now new)

-- it is Listing still, has not seen the clock's mark, and has seen what it had
pub record GoesListing (old new : CallerView) : Type 0 where
  pub keeps : Keeps old new
  pub listing : (caller_now new).stage ≡ Stage.Listing
  pub clock : (caller_now new).seen clock_mark ≡ false
  pub marks : (i : ℕ) → (caller_now old).seen i ≡ true → (caller_now new).seen i ≡ true

-- it has seen all marks below this one
abbrev pub HasSeenBelow : ℕ → Caller → Type 0
HasSeenBelow count caller = (i : ℕ) → i < count → caller.seen i ≡ true

-- it has seen the mark of this number
pub record HasSeen (at : ℕ) (old new : CallerView) : Type 0 where
  pub goes : GoesListing old new
  pub seen : (caller_now new).seen at ≡ true

-- it has seen every mark, and begins its check
pub record BeginsCheck (old new : CallerView) : Type 0 where
  pub keeps : Keeps old new
  pub checking : (caller_now new).stage ≡ Stage.Checking

-- its operation is over, and it took that
pub record Ends (done : Done) (old new : CallerView) : Type 0 where
  pub before : CallerView
  pub keeps : Keeps old before
  pub steps : new ≡ took before done

-- the gauges of the first needs were read, and their values are these
abbrev pub AreTaken : List Need → List ℕ → ℕ → Caller → Type 0
AreTaken needs values count caller = (i : ℕ) (need : Need) (value : ℕ) → i < count
    → caller.readings (slice_index_or needs i need).gauge ≡ Some (slice_index_or values i value)

-- it has read the gauges of the needs
pub record HasReadAll (needs : List Need) (values : List ℕ) (old new : CallerView) : Type 0 where
  pub keeps : Keeps old new
  pub checking : (caller_now new).stage ≡ Stage.Checking
  pub read : new ≡ have_read old needs values
  pub each : length values ≡ length needs
  pub taken : AreTaken needs values (length needs) (caller_now new)

-- it has read them and then the clock, at this moment
pub record HasReadings (op : Operation) (values : List ℕ) (moment : ℕ) (old new : CallerView) : Type 0 where
  pub last : CallerView
  pub described : IsDescribed op (caller_now old).description
  pub before_clock : All (λ (need : Need). need.gauge < clock_of last.table.shape) op.needs
  pub needs : HasReadAll op.needs values old last
  pub clock : new ≡ caller_did last (CallerStep.Left (clock_of last.table.shape) moment)

-- how an operation can be answered at these values and this moment
abbrev pub IsEarned : How → Operation → List ℕ → ℕ → Type 0
IsEarned Satisfied op values moment = IsSatisfied op values
IsEarned Expired op values moment = IsOverdue op moment

-- it has read them and the clock, and left the operation, which isn't answerable
pub record Leaves (op : Operation) (old new : CallerView) : Type 0 where
  pub values : List ℕ
  pub moment : ℕ
  pub keeps : Keeps old new
  pub each : length values ≡ length op.needs
  pub steps : new ≡ caller_did (have_read old op.needs values) (CallerStep.Left (clock_of old.table.shape) moment)
  pub unsatisfied : ¬ IsSatisfied op values
  pub early : moment < op.deadline
  pub waits : (caller_now new).stage ≡ Stage.Waiting

abbrev pub HasChecked : Operation → Registered → CallerView → CallerView → Type 0
HasChecked op Registered.Parked old new = Leaves op old new
HasChecked op (Registered.Won done) old new = Ends done old new

-- the operation is opened, at the next generation
pub record IsOpened (op : Operation) (old new : CallerView) : Type 0 where
  pub went : GoesOn old new
  pub generation : (caller_now new).generation ≡ (caller_now old).generation + 1
  pub described : IsDescribed op (caller_now new).description
  pub owed : (caller_now new).owed ≡ (caller_now old).owed
  pub taken : (caller_now new).taken ≡ (caller_now old).taken
