-- A request that is answered: what becomes of it before anything of it is written.
use Rattle.std.specs.Prelude.{◌≡◌, ◌⊎◌, ℕ, true, false, List, [], ◌∷◌, ◌++◌, Some, None}
use Rattle.audit.specs.declared.account.Call.{Call}
use Rattle.audit.specs.declared.account.CallHow.{CallHow}
use Rattle.audit.specs.declared.account.Point.{Point}
use Rattle.audit.specs.declared.account.SessionEnd.TheVariants.{NoMemory}
use Rattle.audit.specs.declared.account.Transcript.{Transcript}
use Rattle.audit.specs.Fits.{is_answered}
use Rattle.audit.specs.broker.books.Told.{is_cut}
use Rattle.session.specs.declared.answers.Answered.{Answered}
use Rattle.session.specs.Onwards.{HasGoneOn}
use Rattle.shared_broker.specs.Calling.{IsEndFor, IsRepliedTo}
use Rattle.shared_broker.specs.Passes.{PassView, calls_made}

-- the pass goes on, and its transcripts and what waits are as they were
pub record HasOnlyLooked (told : ℕ) (old new : PassView) : Type 0 where
  pub on : HasGoneOn told old new
  pub ended : new.ended ≡ old.ended
  pub going : new.going ≡ old.going
  pub waits : new.waits ≡ old.waits

-- the transcript that is going has one call more, of this frame, and nothing waits
pub record HasOneMore (told : ℕ) (frame : List ℕ) (old new : PassView) : Type 0 where
  pub on : HasGoneOn told old new
  pub ended : new.ended ≡ old.ended
  pub waits : new.waits ≡ None
  pub transcript : Transcript
  pub call : Call
  pub frame_is : call.frame ≡ frame
  pub going : old.going ≡ Some transcript
  pub called : new.going ≡ Some (record transcript { calls = transcript.calls ++ call ∷ [] })

-- the last call of the transcript that is going has come to its end so, and nothing waits
pub record HasFinishedLast (told : ℕ) (old new : PassView) : Type 0 where
  pub on : HasGoneOn told old new
  pub ended : new.ended ≡ old.ended
  pub waits : new.waits ≡ None
  pub transcript : Transcript
  pub call : Call
  pub finish : List Point
  pub how : CallHow
  pub going : old.going ≡ Some (record transcript { calls = transcript.calls ++ call ∷ [] })
  pub finished : new.going ≡ Some (record transcript { calls = transcript.calls ++ record call { finish = finish; how = how } ∷ [] })

-- the call has this reply
pub record IsAnsweredBy (pass : PassView) (call : Call) (bytes : List ℕ) : Type 0 where
  pub answered : is_answered call.how ≡ true
  pub uncut : is_cut call.how ≡ false
  pub replied : IsRepliedTo pass call bytes

-- what became of a frame
abbrev pub HasAnswered : ℕ → List ℕ → Answered → PassView → PassView → Type 0
HasAnswered told frame (Answered.Reply bytes) old new = (c : HasOneMore told frame old new) × IsAnsweredBy new c.call bytes
HasAnswered told frame Answered.Quiet old new = (c : HasOneMore told frame old new) × (is_answered c.call.how ≡ false) × (is_cut c.call.how ≡ false)
HasAnswered told frame (Answered.Ended end) old new =
    (HasOnlyLooked told old new × ((end ≡ NoMemory) ⊎ IsEndFor frame (calls_made old) end))
    ⊎ ((end ≡ NoMemory) × (c : HasOneMore told frame old new) × (is_answered c.call.how ≡ false))

-- what became of a request that waited
pub record IsFinished (told : ℕ) (old new : PassView) (bytes : List ℕ) : Type 0 where
  pub last : HasFinishedLast told old new
  pub answer : IsAnsweredBy new (record last.call { finish = last.finish; how = last.how }) bytes

pub record IsCutShort (told : ℕ) (old new : PassView) : Type 0 where
  pub last : HasFinishedLast told old new
  pub unanswered : is_answered last.how ≡ false
