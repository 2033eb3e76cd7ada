-- A session as it goes on, and as it is about to end.
use Rattle.std.specs.Prelude.{◌≡◌, ℕ, Bool, true, false, List, Option, Some, None, length}
use Rattle.audit.specs.declared.account.SessionEnd.{SessionEnd}
use Rattle.audit.specs.declared.account.SessionEnd.TheVariants.{NoMemory}
use Rattle.audit.specs.declared.account.Transcript.{Transcript}
use Rattle.audit.specs.Fits.{EndFits}
use Rattle.audit.specs.Histories.{calls_in}
use Rattle.outside.specs.Causes.{Rose}
use Rattle.audit.specs.broker.books.Told.{last_is_cut}
use Rattle.session.specs.Asked.{AreReads, Reading}
use Rattle.session.specs.Causes.{HasItsCause}
use Rattle.session.specs.Flows.{HasEndedSo, HasFlowed, LinkView}
use Rattle.session.specs.Handled.{HasFrames}
use Rattle.session.specs.Onwards.{HasGoneOn}
use Rattle.session.specs.Served.{ended_so}
use Rattle.session.specs.Replies.{AreReplies, IsWritten}
use Rattle.shared_broker.specs.Passes.{PassView}

-- with what a session began: its number, its pass before the transcript was begun, and its link
pub record Start : Type 0 where
  pub number : ℕ
  pub pass : PassView
  pub link : LinkView

abbrev pub began : ℕ → PassView → LinkView → Start
began number pass link = record { number = number; pass = pass; link = link }

-- the pass has begun this transcript, and nothing waits
pub record HasBegun (start : Start) (told : ℕ) (transcript : Transcript) (pass : PassView) : Type 0 where
  pub on : HasGoneOn told start.pass pass
  pub ended : pass.ended ≡ start.pass.ended
  pub going : pass.going ≡ Some transcript
  pub waits : pass.waits ≡ None
  pub number : transcript.number ≡ start.number
  pub first : transcript.first ≡ length (calls_in start.pass.ended)
  pub open_still : transcript.end ≡ None

-- it goes on: all that it read was handled but for the inbox, and all that is to be written was written
pub record IsServing (start : Start) (told : ℕ) (pass : PassView) (link : LinkView) (inbox : List ℕ) : Type 0 where
  pub transcript : Transcript
  pub begun : HasBegun start told transcript pass
  pub uncut : last_is_cut transcript.calls ≡ false
  pub input : List ℕ
  pub output : List ℕ
  pub flowed : HasFlowed input output start.link link
  pub handled : HasFrames input transcript.calls inbox
  pub reads : List Reading
  pub asked : AreReads reads input transcript.calls
  pub written : AreReplies pass transcript.calls output

-- it is to end so
pub record IsEnding (start : Start) (told : ℕ) (end : SessionEnd) (pass : PassView) (link : LinkView) : Type 0 where
  pub transcript : Transcript
  pub begun : HasBegun start told transcript pass
  pub cut : last_is_cut transcript.calls ≡ true → end ≡ NoMemory
  pub input : List ℕ
  pub output : List ℕ
  pub flowed : HasFlowed input output start.link link
  pub rest : List ℕ
  pub handled : HasFrames input transcript.calls rest
  pub reads : List Reading
  pub asked : AreReads reads input transcript.calls
  pub ended : Bool
  pub ended_is : HasEndedSo link.left ended
  pub fits : EndFits rest ended (ended_so end transcript) (Some end)
  pub written : IsWritten end pass transcript.calls output
  pub cause : HasItsCause rest ended transcript (Rose start.link.faults link.faults) end

-- one step: it goes on, or is to end so
abbrev pub HasStepped : Start → ℕ → Option SessionEnd → PassView → LinkView → List ℕ → Type 0
HasStepped start told None pass link inbox = IsServing start told pass link inbox
HasStepped start told (Some end) pass link inbox = IsEnding start told end pass link
