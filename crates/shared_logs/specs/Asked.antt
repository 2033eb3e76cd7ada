-- A turn of a partition's lock, or of the clock's, in which a call of the pass left its entry.
use Rattle.std.specs.Prelude.{◌≡◌, ◌≢◌, ℕ, ◌≤◌, ◌<◌, ℤ, List, [], ◌∷◌, ◌++◌, length, slice_get, slice_set}
use Rattle.partlog.specs.declared.clock_event.ClockEvent.{ClockEvent}
use Rattle.partlog.specs.declared.clock_event.ClockEvent.TheVariants as clocks
use Rattle.partlog.specs.declared.clock_event.TheConstants.{MOST_MOMENT}
use Rattle.partlog.specs.declared.numbers.Numbers.{Numbers}
use Rattle.partlog.specs.Gauges.{numbers_of}
use Rattle.partlog.specs.History.{History}
use Rattle.partlog.specs.Looked.{looked}
use Rattle.partlog.specs.Moment.{moment_of}
use Rattle.partlog.specs.State.{PartState as State, state_of}
use Rattle.partlog.specs.Ticked.{ticked}
use Rattle.kanswer.specs.declared.accepted.Accepted.{Accepted}
use Rattle.kanswer.specs.declared.accepted.Budget.{Budget}
use Rattle.kanswer.specs.Answer.{batches_as, budget_after}
use Rattle.kanswer.specs.Decisions.{Outcome}
use Rattle.kanswer.specs.LogReadings.{HasRecords}
use Rattle.kanswer.specs.Waiting.{gauge_value}
use Rattle.kwire.specs.declared.request.FetchPart.{FetchPart}
use Rattle.kanswer.specs.declared.entered.Entered.{Entered}
use Rattle.kanswer.specs.Entered.{HasEntered}
use Rattle.audit.specs.broker.Board.{history_at}
use Rattle.shared_logs.specs.Coming.{IsSamePass, OthersCame}
use Rattle.shared_logs.specs.Shared.{LogPassView}

-- The pass found these histories, to which others alone had added: of this partition, and as it had seen them of all others. Then it left
-- one entry in that of the partition; the clock's and its ticks are as they were.
pub record LeftOne (part : ℕ) (old new : LogPassView) (found : List History) (left : History) : Type 0 where
  pub same : IsSamePass old new
  pub others : OthersCame old.number old.parts old.clock found old.clock
  pub alone : (p : ℕ) → p ≢ part → slice_get found p ≡ slice_get old.parts p
  pub parts : new.parts ≡ slice_set found part left
  pub clock : new.clock ≡ old.clock
  pub ticked : new.ticked ≡ old.ticked

-- the partition's log was asked, at the moment of the clock that the pass has seen; this became of it, and its numbers are now these
pub record HasAsked (part seq : ℕ) (outcome : State → Outcome) (old new : LogPassView) (entered : Entered) (numbers : Numbers) : Type 0 where
  pub found : List History
  pub left : History
  pub turn : LeftOne part old new found left
  pub entry : HasEntered old.number seq (moment_of old.clock) outcome (history_at found part) left entered
  pub numbers_are : numbers ≡ numbers_of (state_of left)

-- what the reply takes of a partition was read in that state, and the budget is lowered by it
pub record HasRead (replica : ℤ) (asked : FetchPart) (became : Accepted) (state : State) (numbers : Numbers) (records : List ℕ) (before after : Budget) : Type 0 where
  pub read : HasRecords replica asked became (record { numbers = numbers; records = records }) state before
  pub lowered : after ≡ budget_after (batches_as replica asked became state before) before

-- the partition was looked at, in a state in which this gauge of it is no less than this value
pub record HasLooked (part seq gauge least : ℕ) (old new : LogPassView) (place : ℕ) (numbers : Numbers) : Type 0 where
  pub found : List History
  pub turn : LeftOne part old new found (looked (history_at found part) old.number seq)
  pub place_is : place ≡ length (history_at found part).events
  pub numbers_are : numbers ≡ numbers_of (state_of (history_at found part))
  pub late : least ≤ gauge_value gauge (state_of (history_at found part))

-- the clock was looked at, at a moment that is no less than this one
pub record HasLookedAtClock (seq least : ℕ) (old new : LogPassView) (place moment : ℕ) : Type 0 where
  pub found : List ClockEvent
  pub same : IsSamePass old new
  pub others : OthersCame old.number old.parts old.clock old.parts found
  pub parts : new.parts ≡ old.parts
  pub clock : new.clock ≡ found ++ clocks.Look old.number seq ∷ []
  pub ticked : new.ticked ≡ old.ticked
  pub place_is : place ≡ length found
  pub moment_is : moment ≡ moment_of found
  pub late : least ≤ moment
  pub limit : moment ≤ MOST_MOMENT

-- The clock that the pass has seen has a moment of at least t. It added the tick itself where the moment that it found was below t.
pub record HasTicked (t : ℕ) (old new : LogPassView) : Type 0 where
  pub found : List ClockEvent
  pub same : IsSamePass old new
  pub others : OthersCame old.number old.parts old.clock old.parts found
  pub parts : new.parts ≡ old.parts
  pub clock : new.clock ≡ ticked found t
  pub added : moment_of found < t → new.ticked ≡ old.ticked ++ t ∷ []
  pub stood : t ≤ moment_of found → new.ticked ≡ old.ticked
  pub reached : t ≤ moment_of new.clock
