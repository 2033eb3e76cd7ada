-- What `handle` answers, and why.
use Rattle.std.specs.Prelude.{◌≡◌, ◌≢◌, ◌⊎◌, ℕ, ◌<◌, Bool, true, false, List, [], ◌∷◌, ◌++◌, Option, Some, None}
use Rattle.audit.specs.declared.account.Call.{Call}
use Rattle.audit.specs.declared.account.CallHow.{CallHow}
use Rattle.audit.specs.declared.account.CallHow.TheVariants.{AtOnce, Cut, Expired, Parked as Waits, Quiet, Satisfied}
use Rattle.audit.specs.declared.account.SessionEnd.{SessionEnd}
use Rattle.audit.specs.declared.account.SessionEnd.TheVariants as ends
use Rattle.audit.specs.declared.account.TheConstants.{MOST_CALLS}
use Rattle.audit.specs.declared.account.Transcript.{Transcript}
use Rattle.audit.specs.Fits.{IsReplyOf}
use Rattle.shared_logs.specs.Left.{AreLeft}
use Rattle.kanswer.specs.Waiting.{is_quiet}
use Rattle.kwire.specs.declared.frame.WireFault.{WireFault}
use Rattle.kwire.specs.declared.frame.WireFault.TheVariants.{NoMemory as OutOfMemory}
use Rattle.kwire.specs.declared.reply.Reply.{Reply}
use Rattle.kwire.specs.declared.request.Request.{Request}
use Rattle.kwire.specs.IsRequest.{IsRequest}
use Rattle.kwire.specs.Refusal.{IsRefused}
use Rattle.kwire.specs.Spelling.{spelling}
use Rattle.audit.specs.broker.GoesOn.{Carried, HaveGrown}
use Rattle.purgatory.specs.declared.outcome.Done.{Done}
use Rattle.purgatory.specs.declared.outcome.Registered.{Registered}
use Rattle.purgatory.specs.Going.{GoesOn}
use Rattle.purgatory.specs.Registered.{HasRegistered}
use Rattle.room_core.specs.declared.event.How.{How}
use Rattle.room_table.specs.Seats.{CallerView}
use Rattle.opcond.specs.Operation.{Operation}
use Rattle.shared_broker.specs.declared.calling.Handled.{Handled}
use Rattle.shared_broker.specs.declared.parked.Parked.{Parked}
use Rattle.shared_broker.specs.Passes.{PassView, calls_made, made_with}

-- This call, of a frame that is this request, comes after the earlier ones of the open transcript. What the pass has seen of the histories
-- goes on from what it had seen.
pub record HasCalled (frame : List ℕ) (old new : PassView) : Type 0 where
  pub transcript : Transcript
  pub call : Call
  pub request : Request
  pub asked : IsRequest frame request
  pub frame_is : call.frame ≡ frame
  pub going : old.going ≡ Some transcript
  pub called : new.going ≡ Some (record transcript { calls = transcript.calls ++ call ∷ [] })
  pub ended : new.ended ≡ old.ended
  pub number : new.logs.number ≡ old.logs.number
  pub made : made_with new ≡ made_with old
  pub grown : HaveGrown old.logs.parts old.logs.clock new.logs.parts new.logs.clock
  pub seat : GoesOn old.logs.seat new.logs.seat
  pub ticked : new.logs.ticked ≡ old.logs.ticked

-- each history that the call asked ends with its own entry, as the pass has seen it
abbrev pub HasLeft : PassView → PassView → Type 0
HasLeft old new = AreLeft (calls_made old) old.logs new.logs

-- what is made of a reply: its frame where it is to be sent, and else nothing
abbrev pub frame_of : Bool → Reply → List ℕ
frame_of true reply = spelling reply
frame_of false reply = []

-- these bytes are made of the call's reply, in every account that goes on from what the pass has seen
pub record IsMadeOfReply (is_sent : Bool) (pass : PassView) (call : Call) (frame : List ℕ) : Type 0 where
  pub reply : Reply
  pub spelled : frame ≡ frame_of is_sent reply
  pub replied : Carried pass.config pass.logs.parts pass.logs.clock (λ account. IsReplyOf account call reply)

-- they are its frame
abbrev pub IsRepliedTo : PassView → Call → List ℕ → Type 0
IsRepliedTo = IsMadeOfReply true

-- how a call ends that this winner won
abbrev pub how_by : How → ℕ → CallHow
how_by How.Satisfied by = Satisfied by
how_by How.Expired by = Expired by

abbrev pub told_as : Done → CallHow
told_as done = how_by done.how done.by

-- it needn't wait; or its operation was registered in this call, and found won
abbrev pub IsAnsweredAs : CallHow → CallerView → CallerView → Type 0
IsAnsweredAs how old new =
    (how ≡ AtOnce) ⊎ ((op : Operation) × (done : Done) × (before : CallerView) × GoesOn old before
    × (after : CallerView) × HasRegistered op (Registered.Won done) before after × GoesOn after new × (how ≡ told_as done))

-- its operation was registered in this call, and waits
pub record HasParked (parked : Parked) (old new : CallerView) : Type 0 where
  pub before : CallerView
  pub came : GoesOn old before
  pub registered : HasRegistered parked.op Registered.Parked before new

-- a call that running out of memory cut off
abbrev pub IsCutOff : CallHow → Type 0
IsCutOff how = (won : Option ℕ) × (how ≡ Cut won)

-- why no call is made of the frame
abbrev pub IsEndFor : List ℕ → ℕ → SessionEnd → Type 0
IsEndFor frame made end =
    ((end ≡ ends.CallsFull) × (made ≡ MOST_CALLS))
    ⊎ ((why : WireFault) × (end ≡ ends.Refused why) × (made < MOST_CALLS) × IsRefused frame why × (why ≢ OutOfMemory))

abbrev pub HasHandledAs : Bool → List ℕ → Handled → PassView → PassView → Type 0
HasHandledAs is_sent frame (Handled.Ended end) old new = (new ≡ old) × IsEndFor frame (calls_made old) end
HasHandledAs is_sent frame Handled.Quiet old new =
    (c : HasCalled frame old new) × (is_quiet c.request.ask ≡ true) × (c.call.how ≡ Quiet) × HasLeft old new × (new.waits ≡ None)
HasHandledAs is_sent frame (Handled.Reply bytes) old new =
    (c : HasCalled frame old new) × (is_quiet c.request.ask ≡ false) × IsAnsweredAs c.call.how old.logs.seat new.logs.seat × IsMadeOfReply is_sent new c.call bytes
    × HasLeft old new × (new.waits ≡ None)
HasHandledAs is_sent frame (Handled.Parked deadline) old new =
    (c : HasCalled frame old new) × (c.call.how ≡ Waits) × (parked : Parked) × (new.waits ≡ Some parked) × (parked.op.deadline ≡ deadline)
    × HasParked parked old.logs.seat new.logs.seat × HasLeft old new
HasHandledAs is_sent frame Handled.NoMemory old new =
    (new ≡ old) ⊎ ((c : HasCalled frame old new) × IsCutOff c.call.how × (new.waits ≡ None))

-- a reply's frame is made
abbrev pub HasHandled : List ℕ → Handled → PassView → PassView → Type 0
HasHandled = HasHandledAs true
