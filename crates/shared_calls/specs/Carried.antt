-- Decisions that were carried out by a pass's call, one after the other, each in a turn of its partition.
use Rattle.std.specs.Prelude.{◌≡◌, ℕ, ◌+◌, List, ◌++◌, drop, length, take}
use Rattle.audit.specs.declared.account.Call.{Call}
use Rattle.audit.specs.declared.account.Point.{Point}
use Rattle.audit.specs.declared.account.Transcript.{Transcript}
use Rattle.kanswer.specs.Decisions.{Decision}
use Rattle.kwire.specs.Configuration.{Configuration}
use Rattle.kwire.specs.declared.request.Request.{Request}
use Rattle.audit.specs.broker.Entering.{Noted}
use Rattle.audit.specs.broker.GoesOn.{HaveGrown}
use Rattle.audit.specs.broker.books.Accepting.{IsAccepting}
use Rattle.audit.specs.broker.books.Underway.{seq_of}
use Rattle.shared_logs.specs.Coming.{IsSamePass}
use Rattle.shared_logs.specs.Shared.{LogPassView}
use Rattle.shared_logs.specs.Amid.{amid}
use Rattle.shared_logs.specs.Left.{AreLeft}

-- the call of this number, whose points are these so far, and of whose decisions these are the next
pub record IsAt (config : Configuration) (seq : ℕ) (next : List Decision) (pass : LogPassView) (points : List Point)
    (front : List Transcript) (transcript : Transcript) (call : Call) (request : Request) (decisions : List Decision) (reached : ℕ) (noted : List Noted) : Type 0 where
  pub number : seq_of (amid config front transcript pass call) ≡ seq
  pub points_are : call.accept ≡ points
  pub next_are : take (length next) (drop reached decisions) ≡ next
  pub accepting : IsAccepting (amid config front transcript pass call) request decisions reached noted

-- These decisions were carried out, and this was noted of them. Whatever the call was accepting before, it has come so much further.
pub record HasCarried (config : Configuration) (seq : ℕ) (next : List Decision) (old : LogPassView) (before : List Point)
    (new : LogPassView) (after : List Point) (more : List Noted) : Type 0 where
  pub same : IsSamePass old new
  pub ticked : new.ticked ≡ old.ticked
  pub grown : HaveGrown old.parts old.clock new.parts new.clock
  pub left : AreLeft seq old new
  pub goes : (front : List Transcript) (transcript : Transcript) (call : Call) (request : Request) (decisions : List Decision) (reached : ℕ)
      (noted : List Noted) → IsAt config seq next old before front transcript call request decisions reached noted
      → IsAccepting (amid config front transcript new (record call { accept = after })) request decisions (reached + length next) (noted ++ more)

-- It was stopped on the way, because memory ran out.
pub record HasStopped (config : Configuration) (seq : ℕ) (next : List Decision) (old : LogPassView) (before : List Point)
    (new : LogPassView) (after : List Point) : Type 0 where
  pub same : IsSamePass old new
  pub ticked : new.ticked ≡ old.ticked
  pub grown : HaveGrown old.parts old.clock new.parts new.clock
  pub goes : (front : List Transcript) (transcript : Transcript) (call : Call) (request : Request) (decisions : List Decision) (reached : ℕ)
      (noted : List Noted) → IsAt config seq next old before front transcript call request decisions reached noted
      → (later : ℕ) × (more : List Noted) × IsAccepting (amid config front transcript new (record call { accept = after })) request decisions later more
