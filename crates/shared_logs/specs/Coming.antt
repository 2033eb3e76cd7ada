-- What came in between two calls of a pass: entries of others, and none of its own.
use Rattle.std.specs.Prelude.{◌≡◌, ℕ, List}
use Rattle.partlog.specs.declared.clock_event.ClockEvent.{ClockEvent}
use Rattle.partlog.specs.History.{History}
use Rattle.room_table.specs.Seats.{caller_now}
use Rattle.audit.specs.broker.GoesOn.{HaveGrown}
use Rattle.audit.specs.broker.books.Owned.{OwnWithin}
use Rattle.purgatory.specs.Going.{GoesOn, KeepsOperation}
use Rattle.shared_logs.specs.Shared.{LogPassView}

-- the later histories go on from the earlier ones, and this pass has left nothing behind those
pub record OthersCame (number : ℕ) (parts : List History) (clock : List ClockEvent) (later : List History) (behind : List ClockEvent) : Type 0 where
  pub grown : HaveGrown parts clock later behind
  pub within : OwnWithin number parts clock later behind

-- the pass is the same, and its operation is as it was; it may owe scans
pub record IsSamePass (old new : LogPassView) : Type 0 where
  pub number : new.number ≡ old.number
  pub made : new.made ≡ old.made
  pub went : GoesOn old.seat new.seat
  pub kept : KeepsOperation (caller_now old.seat) (caller_now new.seat)

-- it saw what others did, and did nothing
pub record HasCaughtUp (old new : LogPassView) : Type 0 where
  pub same : IsSamePass old new
  pub others : OthersCame old.number old.parts old.clock new.parts new.clock
  pub ticked : new.ticked ≡ old.ticked

-- its seat went on, and it saw nothing
pub record HasStepped (old new : LogPassView) : Type 0 where
  pub number : new.number ≡ old.number
  pub made : new.made ≡ old.made
  pub went : GoesOn old.seat new.seat
  pub parts : new.parts ≡ old.parts
  pub clock : new.clock ≡ old.clock
  pub ticked : new.ticked ≡ old.ticked
