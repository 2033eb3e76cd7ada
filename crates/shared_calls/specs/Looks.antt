-- A call of a pass that was won, as it looks at the partitions of its operation, one after the other.
use Rattle.std.specs.Prelude.{◌≡◌, ℕ, List, [], ◌++◌, Option, None, drop, length}
use Rattle.audit.specs.declared.account.Call.{Call}
use Rattle.audit.specs.declared.account.Point.{Point}
use Rattle.audit.specs.declared.account.Transcript.{Transcript}
use Rattle.audit.specs.LawfulCall.{operation_parts}
use Rattle.kanswer.specs.declared.accepted.Accepted.{Accepted}
use Rattle.kanswer.specs.Results.{parts_asked}
use Rattle.kanswer.specs.Waiting.{values_of}
use Rattle.kwire.specs.Configuration.{Configuration}
use Rattle.kwire.specs.declared.request.Request.{Request}
use Rattle.opcond.specs.Operation.{Operation}
use Rattle.opcond.specs.Tally.{IsSatisfied}
use Rattle.partlog.specs.State.{PartState as State}
use Rattle.audit.specs.broker.Board.{Waiting}
use Rattle.audit.specs.broker.GoesOn.{HaveGrown}
use Rattle.audit.specs.broker.books.Finishing.{IsFinishing, shown_with}
use Rattle.audit.specs.broker.books.Underway.{seq_of}
use Rattle.room_core.specs.declared.event.How.{How}
use Rattle.shared_logs.specs.Coming.{IsSamePass}
use Rattle.shared_logs.specs.Shared.{LogPassView}
use Rattle.shared_logs.specs.Amid.{amid}
use Rattle.shared_logs.specs.Left.{AreLeft}
use Rattle.shared_calls.specs.Finished.{IsLate, WasDelayed}
use Rattle.shared_calls.specs.Fresh.{AreFresh}

-- The call of this number, with these points of its completion so far, saw these states. The partitions that come next are those of these
-- results. The states are fresh; and once all are, where the call looked at no clock, they satisfy its operation.
pub record IsAt (seq : ℕ) (fresh : ℕ → State → Type 0) (pass : LogPassView) (points : List Point) (next : List Accepted)
    (config : Configuration) (front : List Transcript) (transcript : Transcript) (call : Call) (w : Waiting) (late : Option Point) (seen : List State) : Type 0 where
  pub number : seq_of (amid config front transcript pass call) ≡ seq
  pub finishing : IsFinishing (amid config front transcript pass (record call { finish = points })) w late seen
  pub next_are : drop (length seen) (operation_parts w.steps) ≡ parts_asked next
  pub are_fresh : AreFresh fresh (operation_parts w.steps) seen
  pub enough : late ≡ None → (all : List State) → length all ≡ length (operation_parts w.steps) → AreFresh fresh (operation_parts w.steps) all
      → IsSatisfied w.operation (values_of w.request.ask (shown_with w.steps all))

-- The partitions of these results were looked at, those whose logs were asked, and these states were seen there. Whatever call stood before
-- them stands behind them now.
pub record HaveLooked (seq : ℕ) (fresh : ℕ → State → Type 0) (old : LogPassView) (before : List Point) (accepted : List Accepted)
    (new : LogPassView) (after : List Point) (states : List State) : Type 0 where
  pub same : IsSamePass old new
  pub ticked : new.ticked ≡ old.ticked
  pub grown : HaveGrown old.parts old.clock new.parts new.clock
  pub left : AreLeft seq old new
  pub size : length states ≡ length (parts_asked accepted)
  pub goes : (rest : List Accepted) (config : Configuration) (front : List Transcript) (transcript : Transcript) (call : Call) (w : Waiting)
      (late : Option Point) (seen : List State) → IsAt seq fresh old before (accepted ++ rest) config front transcript call w late seen
      → IsAt seq fresh new after rest config front transcript call w late (seen ++ states)

-- It was stopped on the way, because memory ran out: of these states were seen.
pub record HaveStopped (seq : ℕ) (fresh : ℕ → State → Type 0) (old : LogPassView) (before : List Point) (accepted : List Accepted)
    (new : LogPassView) (after : List Point) : Type 0 where
  pub same : IsSamePass old new
  pub ticked : new.ticked ≡ old.ticked
  pub grown : HaveGrown old.parts old.clock new.parts new.clock
  pub states : List State
  pub goes : (rest : List Accepted) (config : Configuration) (front : List Transcript) (transcript : Transcript) (call : Call) (w : Waiting)
      (late : Option Point) (seen : List State) → IsAt seq fresh old before (accepted ++ rest) config front transcript call w late seen
      → IsFinishing (amid config front transcript new (record call { finish = after })) w late (seen ++ states)

-- A delayed call was won. It looked at the clock where it expired, and at no partition yet.
pub record WasWon (seq : ℕ) (request : Request) (accepted : List Accepted) (op : Operation) (how : How) (fresh : ℕ → State → Type 0)
    (old new : LogPassView) (after : List Point) : Type 0 where
  pub same : IsSamePass old new
  pub ticked : new.ticked ≡ old.ticked
  pub grown : HaveGrown old.parts old.clock new.parts new.clock
  pub left : AreLeft seq old new
  pub late : Option Point
  pub late_is : IsLate how late
  pub goes : (config : Configuration) (front : List Transcript) (transcript : Transcript) (call : Call) (w : Waiting)
      → WasDelayed config seq request accepted op old front transcript call w
      → IsAt seq fresh new after accepted config front transcript call w late []
