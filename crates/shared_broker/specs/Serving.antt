-- A call that is served or completed, by what its pass knew and did before, and what it knows and did after.
use Rattle.std.specs.Prelude.{◌≡◌, ℕ, ◌+◌, ◌-◌, ◌^◌, ◌≤◌, ◌<◌, Bool, true, false, if◌then◌else◌, List, [], ◌∷◌, ◌++◌, length, Option, Some, None, Result, Ok, Err}
use Rattle.audit.specs.declared.account.Call.{Call}
use Rattle.audit.specs.declared.account.CallHow.{CallHow}
use Rattle.audit.specs.declared.account.CallHow.TheVariants.{AtOnce, Cut, Parked as Waits, Quiet}
use Rattle.audit.specs.declared.account.Point.{Point}
use Rattle.audit.specs.declared.account.TheConstants.{MOST_CALLS}
use Rattle.audit.specs.declared.account.Transcript.{Transcript}
use Rattle.audit.specs.Fits.{IsReplyOf}
use Rattle.audit.specs.Histories.{calls_in}
use Rattle.audit.specs.IsLawful.{is_won_as}
use Rattle.shared_logs.specs.Amid.{amid}
use Rattle.shared_logs.specs.Left.{AreLeft}
use Rattle.kanswer.specs.Answer.{answer}
use Rattle.kanswer.specs.declared.accepted.Accepted.{Accepted}
use Rattle.kanswer.specs.Decisions.{Decides, Decision}
use Rattle.kanswer.specs.LogReadings.{AreReadings}
use Rattle.kanswer.specs.Waiting.{Shown, becomes_delayed, is_quiet, results_of}
use Rattle.kwire.specs.Configuration.{Configuration}
use Rattle.kwire.specs.declared.reply.Reply.{Reply}
use Rattle.kwire.specs.declared.request.Request.{Request}
use Rattle.kwire.specs.IsRequest.{IsRequest}
use Rattle.audit.specs.broker.books.Accepting.{IsAccepting}
use Rattle.audit.specs.broker.books.IsBook.{IsBook}
use Rattle.audit.specs.broker.books.Told.{last_is_cut}
use Rattle.audit.specs.broker.books.Underway.{book_amid, seq_of}
use Rattle.audit.specs.broker.Board.{Waiting}
use Rattle.audit.specs.broker.Entering.{Noted, shown_of}
use Rattle.audit.specs.broker.GoesOn.{Carried, HaveGrown}
use Rattle.purgatory.specs.declared.outcome.Done.{Done}
use Rattle.purgatory.specs.Going.{GoesOn, OwesNothing}
use Rattle.purgatory.specs.Polled.{HasPolled, HasTaken}
use Rattle.room_core.specs.declared.parts.Stage.{Stage}
use Rattle.room_table.specs.Seats.{CallerView, caller_now}
use Rattle.shared_calls.specs.Came.{CameView}
use Rattle.shared_broker.specs.Calling.{HasParked, IsAnsweredAs, IsCutOff, frame_of, told_as}
use Rattle.shared_broker.specs.declared.calling.Became.{Became}
use Rattle.shared_broker.specs.declared.parked.Parked.{Parked}
use Rattle.shared_broker.specs.Passes.{PassView, calls_made}
use Rattle.shared_broker.specs.Standing.{HoldsBook, IsKeptOf, Sits, Stands}
use Rattle.shared_calls.specs.Finished.{WasDelayed}
use Rattle.shared_logs.specs.Closing.{taken_from}
use Rattle.shared_logs.specs.Coming.{HasStepped, IsSamePass}
use Rattle.shared_logs.specs.Shared.{LogPassView}

-- ---- a call that is written down

-- as cut off, of this frame
abbrev pub fresh_call : List ℕ → Call
fresh_call frame = record { frame = frame; accept = []; finish = []; how = Cut None }

-- the transcript, with this call as its last
abbrev pub with_last : Transcript → Call → Transcript
with_last transcript call = record transcript { calls = transcript.calls ++ call ∷ [] }

-- A call of this frame was added to the open transcript. The frame is this request, of which something is decided.
pub record WasWritten (frame : List ℕ) (request : Request) (seq : ℕ) (old new : PassView) : Type 0 where
  pub stood : Stands old
  pub transcript : Transcript
  pub going : old.going ≡ Some transcript
  pub none : old.waits ≡ None
  pub whole : last_is_cut transcript.calls ≡ false
  pub number : seq ≡ calls_made old
  pub few : seq < MOST_CALLS
  pub asked : IsRequest frame request
  pub decisions : List Decision
  pub decided : Decides old.config request.ask decisions
  pub new_is : new ≡ record old { going = Some (with_last transcript (fresh_call frame)) }

-- ---- what is true before a step of the call, which is the last of this transcript, after these ones

-- the call of this number was written down, and nothing of it is carried out
pub record IsWritten (config : Configuration) (seq : ℕ) (request : Request) (pass : LogPassView) (call : Call)
    (front : List Transcript) (transcript : Transcript) : Type 0 where
  pub number : seq_of (amid config front transcript pass call) ≡ seq
  pub cut : call.how ≡ Cut None
  pub decisions : List Decision
  pub accepting : IsAccepting (amid config front transcript pass call) request decisions 0 []

-- all that was decided of it is carried out, and it is to wait
pub record WillWait (config : Configuration) (seq : ℕ) (request : Request) (accepted : List Accepted) (pass : LogPassView) (call : Call)
    (front : List Transcript) (transcript : Transcript) : Type 0 where
  pub number : seq_of (amid config front transcript pass call) ≡ seq
  pub decisions : List Decision
  pub noted : List Noted
  pub accepting : IsAccepting (amid config front transcript pass call) request decisions (length decisions) noted
  pub results : results_of (shown_of noted) ≡ accepted
  pub delayed : becomes_delayed request.ask (shown_of noted) ≡ true

-- it became this operation
abbrev pub WillSit : Configuration → ℕ → Request → Parked → LogPassView → Call → List Transcript → Transcript → Type 0
WillSit config seq request parked pass call front transcript =
    (w : Waiting) × WasDelayed config seq request parked.accepted parked.op pass front transcript call w

-- it waits
abbrev pub IsLastKept : Configuration → ℕ → Parked → LogPassView → Call → List Transcript → Transcript → Type 0
IsLastKept config seq parked pass call front transcript =
    (seq_of (amid config front transcript pass call) ≡ seq) × IsKeptOf (book_amid (amid config front transcript pass call)) parked

-- ---- what is true after it

-- the pass saw more of the histories, and its seat made steps
pub record HasGoneOn (old new : LogPassView) : Type 0 where
  pub number : new.number ≡ old.number
  pub made : new.made ≡ old.made
  pub ticked : new.ticked ≡ old.ticked
  pub grown : HaveGrown old.parts old.clock new.parts new.clock
  pub went : GoesOn old.seat new.seat

-- it may register an operation
pub record IsFree (seat : CallerView) : Type 0 where
  pub idle : (caller_now seat).stage ≡ Stage.Idle
  pub paid : OwesNothing (caller_now seat)
  pub next : (caller_now seat).generation < 2 ^ 32 - 1

-- it has opened one operation at most, waits or is idle, and has taken what the call names that came to its end so
pub record HasSat (how : CallHow) (waits : Option Parked) (old new : CallerView) : Type 0 where
  pub sits : Sits (caller_now new) waits
  pub paid : OwesNothing (caller_now new)
  pub opened : (caller_now new).generation ≤ (caller_now old).generation + 1
  pub taken : (by : ℕ) → taken_from by new ≡ taken_from by old + (if is_won_as by how then 1 else 0)

-- whatever transcripts came before the call, the book holds
pub record HasCome (config : Configuration) (Was : List Transcript → Transcript → Type 0) (waits : Option Parked)
    (old new : LogPassView) (before after : Call) : Type 0 where
  pub on : HasGoneOn old new
  pub seat : HasSat after.how waits old.seat new.seat
  pub frame : after.frame ≡ before.frame
  pub book : (front : List Transcript) (transcript : Transcript) → Was front transcript
      → HoldsBook (book_amid (amid config front transcript new after)) waits

-- these bytes are made of the call's reply, in every account that goes on from what the pass has seen
pub record IsToldTo (is_sent : Bool) (config : Configuration) (pass : LogPassView) (call : Call) (frame : List ℕ) : Type 0 where
  pub reply : Reply
  pub spelled : frame ≡ frame_of is_sent reply
  pub replied : Carried config pass.parts pass.clock (λ account. IsReplyOf account call reply)

-- a call that needn't wait was answered from what came of it
module _ {E : Type 0} where
  abbrev pub IsAnswered : Bool → Configuration → Request → CameView → Result Became E → Call → Call → Type 0
  IsAnswered is_sent config request came (Ok (Became.Answered bytes)) before after =
      (is_quiet request.ask ≡ false) × (after ≡ record before { how = AtOnce })
      × ((shown : List Shown) → (is_sent ≡ true → AreReadings request.ask came.accepted came.readings shown) → bytes ≡ frame_of is_sent (answer config request shown))
  IsAnswered is_sent config request came (Ok Became.Quiet) before after = (is_quiet request.ask ≡ true) × (after ≡ record before { how = Quiet })
  IsAnswered is_sent config request came (Ok (Became.Parked parked)) before after = ⊥
  IsAnswered is_sent config request came (Err e) before after = after ≡ before

  -- the call of this number was served
  abbrev pub HasServed : Bool → Configuration → ℕ → Request → (List Transcript → Transcript → Type 0) → Result Became E
      → LogPassView → LogPassView → Call → Call → Type 0
  HasServed is_sent config seq request Was (Ok (Became.Answered bytes)) old new before after =
      HasCome config Was None old new before after × (is_quiet request.ask ≡ false) × IsAnsweredAs after.how old.seat new.seat
      × AreLeft seq old new × ((front : List Transcript) (transcript : Transcript) → Was front transcript → IsToldTo is_sent config new after bytes)
  HasServed is_sent config seq request Was (Ok Became.Quiet) old new before after =
      HasCome config Was None old new before after × (is_quiet request.ask ≡ true) × (after.how ≡ Quiet) × AreLeft seq old new
  HasServed is_sent config seq request Was (Ok (Became.Parked parked)) old new before after =
      HasCome config Was (Some parked) old new before after × (after.how ≡ Waits) × HasParked parked old.seat new.seat × AreLeft seq old new
  HasServed is_sent config seq request Was (Err e) old new before after = HasCome config Was None old new before after × IsCutOff after.how

-- ---- a call that was won

-- The pass stood and waited with this, and then its word was found won so: its seat alone went on. Before its open transcript it has made so many
-- calls.
pub record WasFoundWon (config : Configuration) (first : ℕ) (parked : Parked) (done : Done) (before : PassView) (logs : LogPassView) (going : Option Transcript) : Type 0 where
  pub config_is : before.config ≡ config
  pub stood : Stands before
  pub first_is : first ≡ length (calls_in before.ended)
  pub waited : before.waits ≡ Some parked
  pub going_is : going ≡ before.going
  pub stepped : HasStepped before.logs logs
  pub polled : HasPolled (Some done) before.logs.seat logs.seat
  pub taken : HasTaken (caller_now before.logs.seat).generation done (caller_now before.logs.seat) (caller_now logs.seat)

-- it waits no longer
abbrev pub completed_as : PassView → LogPassView → Option Transcript → PassView
completed_as before logs going = record before { logs = logs; going = going; waits = None }

-- with these looks, and come to its end so
abbrev pub finished_as : Call → List Point → CallHow → Call
finished_as call finish how = record call { finish = finish; how = how }

-- it came to its end, and the pass's operation is as it was
pub record HasEndedCall (config : Configuration) (Was : List Transcript → Transcript → Type 0) (old new : LogPassView) (before after : Call) : Type 0 where
  pub same : IsSamePass old new
  pub ticked : new.ticked ≡ old.ticked
  pub grown : HaveGrown old.parts old.clock new.parts new.clock
  pub paid : OwesNothing (caller_now new.seat)
  pub rest : after ≡ finished_as before after.finish after.how
  pub book : (front : List Transcript) (transcript : Transcript) → Was front transcript → IsBook (book_amid (amid config front transcript new after)) None

module _ {E : Type 0} where
  abbrev pub HasFinished : Bool → Configuration → ℕ → Done → (List Transcript → Transcript → Type 0) → Result (List ℕ) E
      → LogPassView → LogPassView → Call → Call → Type 0
  HasFinished is_sent config seq done Was (Ok bytes) old new before after =
      HasEndedCall config Was old new before after × (after.how ≡ told_as done) × AreLeft seq old new
      × ((front : List Transcript) (transcript : Transcript) → Was front transcript → IsToldTo is_sent config new after bytes)
  HasFinished is_sent config seq done Was (Err e) old new before after = HasEndedCall config Was old new before after × (after.how ≡ Cut (Some done.by))
