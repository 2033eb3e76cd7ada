-- What a session has received, and what it did with it.
use Rattle.std.specs.Prelude.{◌≡◌, ℕ, true, false, List, [], ◌∷◌, ◌++◌, MatchBool, Option, Some, None, is_some}
use Rattle.std.specs.List.{AllByRecursion, flat_map}
use Rattle.audit.specs.declared.account.SessionEnd.{SessionEnd}
use Rattle.audit.specs.declared.account.Transcript.{Transcript}
use Rattle.audit.specs.Fits.{EndFits, LastIsParked}
use Rattle.audit.specs.RunOf.{IsNotCut, IsTraceEnd}
use Rattle.kwire.specs.Frames.{IsFrameBody, framed}
use Rattle.shared_broker.specs.Passes.{PassView}
use Rattle.trace_workers.specs.Sessions.{SessionView}
use Rattle.trace_workers.specs.Telling.{AreKept}

-- the one transcript that there is, which goes on or has ended
abbrev pub IsOnlyOf : Transcript → List Transcript → Option Transcript → Type 0
IsOnlyOf transcript [] going = (going ≡ Some transcript) × (transcript.end ≡ None)
IsOnlyOf transcript (t ∷ []) going = (t ≡ transcript) × (going ≡ None) × (is_some transcript.end ≡ true)
IsOnlyOf transcript (t ∷ u ∷ ts) going = ⊥

abbrev pub IsOnly : Transcript → PassView → Type 0
IsOnly transcript pass = IsOnlyOf transcript pass.ended pass.going

-- what is left of the input after the frames of its calls is in the inbox; if a request waits, it is the last call
abbrev pub StandsAt : SessionView → List ℕ → Transcript → Option SessionEnd → Type 0
StandsAt s rest transcript None = (rest ≡ s.inbox) × MatchBool (is_some s.pass.waits) (LastIsParked transcript.calls) (LastIsParked transcript.calls → ⊥)
StandsAt s rest transcript (Some end) = EndFits rest s.is_shut transcript (Some end) × IsTraceEnd (Some end)

-- the frames of the calls stand at the front of this input, one after the other, and none of them was cut off; lines that are kept are those of the replies
pub record HasHandled (input : List ℕ) (s : SessionView) : Type 0 where
  pub transcript : Transcript
  pub only : IsOnly transcript s.pass
  pub number : transcript.number ≡ s.number
  pub first : transcript.first ≡ 0
  pub rest : List ℕ
  pub frames : input ≡ flat_map (λ call. framed call.frame) transcript.calls ++ rest
  pub each : AllByRecursion (λ call. IsFrameBody call.frame) transcript.calls
  pub whole : AllByRecursion IsNotCut transcript.calls
  pub stands : StandsAt s rest transcript transcript.end
  pub kept : AreKept s.kept s.number s.pass transcript.calls

pub record HasReceivedNothing (input : List ℕ) (s : SessionView) : Type 0 where
  pub none : input ≡ []
  pub inbox : s.inbox ≡ []
  pub unshut : s.is_shut ≡ false
  pub ended : s.pass.ended ≡ []
  pub going : s.pass.going ≡ None
  pub waits : s.pass.waits ≡ None
  pub kept : AreKept s.kept s.number s.pass []

-- this is all that it has received so far
abbrev pub HasReceived : List ℕ → SessionView → Type 0
HasReceived input s = MatchBool s.is_named (HasHandled input s) (HasReceivedNothing input s)
