-- What a session was, from its link's bytes to its link's bytes.
use Rattle.std.specs.Prelude.{◌≡◌, ◌⊎◌, ℕ, Bool, List, [], ◌∷◌, ◌++◌, Some, None, length}
use Rattle.audit.specs.declared.account.SessionEnd.{SessionEnd}
use Rattle.audit.specs.declared.account.SessionEnd.TheVariants.{NoMemory}
use Rattle.audit.specs.declared.account.Transcript.{Transcript}
use Rattle.audit.specs.Fits.{Fits}
use Rattle.audit.specs.Histories.{calls_in}
use Rattle.outside.specs.Causes.{Rose}
use Rattle.session.specs.Asked.{AreReads, Reading}
use Rattle.session.specs.Causes.{HasItsCause}
use Rattle.session.specs.Flows.{HasEndedSo, HasFlowed, LinkView}
use Rattle.session.specs.Replies.{IsWritten}
use Rattle.shared_broker.specs.Passes.{PassView}

-- the transcript with this end
abbrev pub ended_so : SessionEnd → Transcript → Transcript
ended_so end transcript = record transcript { end = Some end }

-- The transcript stands with its end after those of the pass's earlier sessions; or memory ran out as it was to be ended: it is begun still,
-- and that is the answer.
abbrev pub IsKept : SessionEnd → SessionEnd → Transcript → PassView → PassView → Type 0
IsKept answer end transcript old new =
    ((answer ≡ end) × (new.ended ≡ old.ended ++ ended_so end transcript ∷ []) × (new.going ≡ None))
    ⊎ ((answer ≡ NoMemory) × (new.ended ≡ old.ended) × (new.going ≡ Some transcript))

-- One session of this number. Its transcript fits the bytes that it read, it read only where it had no whole frame left, it has written the
-- replies, and how it ended has its cause.
pub record HasServed (number : ℕ) (answer : SessionEnd) (old new : PassView) (before now : LinkView) : Type 0 where
  pub end : SessionEnd
  pub transcript : Transcript
  pub number_is : transcript.number ≡ number
  pub first : transcript.first ≡ length (calls_in old.ended)
  pub open_still : transcript.end ≡ None
  pub kept : IsKept answer end transcript old new
  pub input : List ℕ
  pub output : List ℕ
  pub flowed : HasFlowed input output before now
  pub ended : Bool
  pub ended_is : HasEndedSo now.left ended
  pub fits : Fits input ended (ended_so end transcript)
  pub reads : List Reading
  pub asked : AreReads reads input transcript.calls
  pub written : IsWritten end new transcript.calls output
  pub cause : HasItsCause fits.rest ended transcript (Rose before.faults now.faults) end
