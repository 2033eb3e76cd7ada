-- A delayed call that was won, and came to its end in turns of its partitions.
use Rattle.std.specs.Prelude.{◌≡◌, ℕ, List, [], Option, Some, None, length, map, ⊤}
use Rattle.audit.specs.declared.account.Call.{Call}
use Rattle.audit.specs.declared.account.Point.{Point}
use Rattle.audit.specs.declared.account.Transcript.{Transcript}
use Rattle.audit.specs.LawfulCall.{Step, operation_parts}
use Rattle.kanswer.specs.declared.accepted.Accepted.{Accepted}
use Rattle.kanswer.specs.declared.accepted.Reading.{Reading}
use Rattle.kanswer.specs.LogReadings.{AreReadings}
use Rattle.kwire.specs.Configuration.{Configuration}
use Rattle.kwire.specs.declared.request.Request.{Request}
use Rattle.opcond.specs.Operation.{Operation}
use Rattle.partlog.specs.State.{PartState as State}
use Rattle.audit.specs.broker.Board.{Waiting}
use Rattle.audit.specs.broker.GoesOn.{HaveGrown}
use Rattle.audit.specs.broker.books.Finishing.{IsDelayed, IsFinishing, shown_with}
use Rattle.audit.specs.broker.books.Underway.{seq_of}
use Rattle.room_core.specs.declared.event.How.{How}
use Rattle.shared_logs.specs.Coming.{IsSamePass}
use Rattle.shared_logs.specs.Shared.{LogPassView}
use Rattle.shared_logs.specs.Amid.{amid}
use Rattle.shared_logs.specs.Left.{AreLeft}

-- the call of this number, which was accepted and became this operation, and has left nothing since
pub record WasDelayed (config : Configuration) (seq : ℕ) (request : Request) (accepted : List Accepted) (op : Operation) (pass : LogPassView)
    (front : List Transcript) (transcript : Transcript) (call : Call) (w : Waiting) : Type 0 where
  pub number : seq_of (amid config front transcript pass call) ≡ seq
  pub unfinished : call.finish ≡ []
  pub delayed : IsDelayed (amid config front transcript pass call) w
  pub request_is : w.request ≡ request
  pub results : map (λ (step : Step). step.result) w.steps ≡ accepted
  pub operation : w.operation ≡ op

-- a call that expired has looked at the clock, and only such a one
abbrev pub IsLate : How → Option Point → Type 0
IsLate How.Satisfied None = ⊤
IsLate How.Satisfied (Some point) = ⊥
IsLate How.Expired None = ⊥
IsLate How.Expired (Some point) = ⊤

-- Each partition of the operation was looked at, and that makes it due; these readings are what the reply takes there.
pub record WasFinished (seq : ℕ) (request : Request) (accepted : List Accepted) (op : Operation) (how : How) (old new : LogPassView) (after : List Point)
    (readings : List Reading) : Type 0 where
  pub same : IsSamePass old new
  pub ticked : new.ticked ≡ old.ticked
  pub grown : HaveGrown old.parts old.clock new.parts new.clock
  pub left : AreLeft seq old new
  pub late : Option Point
  pub late_is : IsLate how late
  pub states : List State
  pub goes : (config : Configuration) (front : List Transcript) (transcript : Transcript) (call : Call) (w : Waiting)
      → WasDelayed config seq request accepted op old front transcript call w
      → IsFinishing (amid config front transcript new (record call { finish = after })) w late states
      × (length states ≡ length (operation_parts w.steps))
      × AreReadings request.ask accepted readings (shown_with w.steps states)

-- It was stopped on the way, because memory ran out.
pub record WasStopped (seq : ℕ) (request : Request) (accepted : List Accepted) (op : Operation) (old new : LogPassView) (after : List Point) : Type 0 where
  pub same : IsSamePass old new
  pub ticked : new.ticked ≡ old.ticked
  pub grown : HaveGrown old.parts old.clock new.parts new.clock
  pub late : Option Point
  pub states : List State
  pub goes : (config : Configuration) (front : List Transcript) (transcript : Transcript) (call : Call) (w : Waiting)
      → WasDelayed config seq request accepted op old front transcript call w
      → IsFinishing (amid config front transcript new (record call { finish = after })) w late states
