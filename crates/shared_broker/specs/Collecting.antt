-- What `collect` answers, and why.
use Rattle.std.specs.Prelude.{◌≡◌, ℕ, suc, Bool, true, List, [], ◌∷◌, ◌++◌, Some, None}
use Rattle.audit.specs.declared.account.Call.{Call}
use Rattle.audit.specs.declared.account.CallHow.{CallHow}
use Rattle.audit.specs.declared.account.CallHow.TheVariants.{Cut, Parked as Waits}
use Rattle.audit.specs.declared.account.Point.{Point}
use Rattle.audit.specs.declared.account.Transcript.{Transcript}
use Rattle.audit.specs.broker.GoesOn.{HaveGrown}
use Rattle.purgatory.specs.declared.outcome.Done.{Done}
use Rattle.purgatory.specs.Going.{GoesOn}
use Rattle.purgatory.specs.Polled.{HasPolled}
use Rattle.room_table.specs.Seats.{CallerView}
use Rattle.shared_broker.specs.declared.collecting.Collected.{Collected}
use Rattle.shared_broker.specs.Calling.{IsMadeOfReply, told_as}
use Rattle.shared_broker.specs.Passes.{PassView, calls_made, made_with}
use Rattle.shared_logs.specs.Left.{AreLeft}
use Rattle.shared_logs.specs.Coming.{HasStepped}

-- The call that waited is the last of the transcript that is going; its word was found won by `done`, and it was completed with these looks.
pub record HasCompleted (old new : PassView) : Type 0 where
  pub transcript : Transcript
  pub call : Call
  pub done : Done
  pub finish : List Point
  pub how : CallHow
  pub waited : call.how ≡ Waits
  pub going : old.going ≡ Some (record transcript { calls = transcript.calls ++ call ∷ [] })
  pub completed : new.going ≡ Some (record transcript { calls = transcript.calls ++ record call { finish = finish; how = how } ∷ [] })
  pub ended : new.ended ≡ old.ended
  pub waits : new.waits ≡ None
  pub number : new.logs.number ≡ old.logs.number
  pub made : made_with new ≡ made_with old
  pub grown : HaveGrown old.logs.parts old.logs.clock new.logs.parts new.logs.clock
  pub taken : CallerView
  pub polled : HasPolled (Some done) old.logs.seat taken
  pub seat : GoesOn taken new.logs.seat
  pub ticked : new.logs.ticked ≡ old.logs.ticked

-- the call's number is that of the last one made
abbrev pub HasLooked : PassView → PassView → Type 0
HasLooked old new = (seq : ℕ) × (calls_made old ≡ suc seq) × AreLeft seq old.logs new.logs

abbrev pub HasCollectedAs : Bool → Collected → PassView → PassView → Type 0
HasCollectedAs is_sent Collected.NotYet old new =
    HasPolled None old.logs.seat new.logs.seat × HasStepped old.logs new.logs × (new ≡ record old { logs = new.logs })
HasCollectedAs is_sent (Collected.Reply bytes) old new =
    (c : HasCompleted old new) × (c.how ≡ told_as c.done) × IsMadeOfReply is_sent new (record c.call { finish = c.finish; how = c.how }) bytes × HasLooked old new
HasCollectedAs is_sent Collected.NoMemory old new = (c : HasCompleted old new) × (c.how ≡ Cut (Some c.done.by))

-- a reply's frame is made
abbrev pub HasCollected : Collected → PassView → PassView → Type 0
HasCollected = HasCollectedAs true
