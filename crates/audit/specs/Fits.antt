-- A transcript fits the input of its session, and what a session was sent.
use Rattle.std.specs.Prelude.{ℕ, ◌+◌, ◌≡◌, ◌<◌, ◌⊎◌, Bool, true, false, List, [], ◌∷◌, ◌++◌, length, filter, ◌==◌, if◌then◌else◌, Option, Some, None}
use Rattle.std.specs.List.{flat_map, AllByRecursion, AllZip}
use Rattle.audit.specs.declared.account.TheConstants.{MOST_CALLS}
use Rattle.audit.specs.declared.account.Account.{Account}
use Rattle.audit.specs.declared.account.Transcript.{Transcript}
use Rattle.audit.specs.declared.account.Call.{Call}
use Rattle.audit.specs.declared.account.CallHow.{CallHow}
use Rattle.audit.specs.declared.account.CallHow.TheVariants.{Quiet, AtOnce, Satisfied, Expired, Parked, Cut}
use Rattle.audit.specs.declared.account.SessionEnd.{SessionEnd}
use Rattle.audit.specs.declared.account.SessionEnd.TheVariants.{Closed, Truncated, FrameTooLong, Refused, CallsFull, ReadFault, WriteFault, NoMemory}
use Rattle.audit.specs.declared.account.Point.{Point}
use Rattle.kwire.specs.declared.frame.Frame.TheVariants.{TooLong}
use Rattle.kwire.specs.declared.frame.WireFault.{WireFault}
use Rattle.kwire.specs.declared.reply.Reply.{Reply}
use Rattle.kwire.specs.Frames.{framed, IsFrameBody, BeginsWhole, BeginsTooLong, next_frame_of}
use Rattle.kwire.specs.Refusal.{IsRefused}
use Rattle.kwire.specs.Spelling.{spelling}
use Rattle.kanswer.specs.Answer.{answer}
use Rattle.kanswer.specs.Waiting.{Shown}
use Rattle.audit.specs.LawfulCall.{Step, IsAccepted, shown_as_accepted, shown_as_completed}

-- nothing more can be read of this: no whole frame stands at its front, and none that is too long
pub record IsUnfinished (rest : List ℕ) : Type 0 where
  pub not_whole : BeginsWhole rest → ⊥
  pub not_too_long : BeginsTooLong rest → ⊥

-- the last of these calls is parked
abbrev pub LastIsParked : List Call → Type 0
LastIsParked [] = ⊥
LastIsParked (call ∷ []) = call.how ≡ Parked
LastIsParked (call ∷ next ∷ calls) = LastIsParked (next ∷ calls)

-- a whole frame at the front that is refused with this
abbrev pub BeginsRefused : List ℕ → WireFault → Type 0
BeginsRefused rest why =
    (body : List ℕ) × (more : List ℕ) × (rest ≡ framed body ++ more) × IsFrameBody body × IsRefused body why

-- how the transcript ends is as the rest of the input shows; `ended` says that no more input comes
abbrev pub EndFits : List ℕ → Bool → Transcript → Option SessionEnd → Type 0
EndFits rest ended transcript None = LastIsParked transcript.calls ⊎ (IsUnfinished rest × (ended ≡ false))
EndFits rest ended transcript (Some Closed) = (ended ≡ true) × (rest ≡ [])
EndFits rest ended transcript (Some (Truncated got)) = (ended ≡ true) × (length rest ≡ got) × (0 < got) × IsUnfinished rest
EndFits rest ended transcript (Some (FrameTooLong size)) = next_frame_of rest ≡ TooLong size
EndFits rest ended transcript (Some (Refused why)) = BeginsRefused rest why
EndFits rest ended transcript (Some CallsFull) = BeginsWhole rest × (transcript.first + length transcript.calls ≡ MOST_CALLS)
EndFits rest ended transcript (Some ReadFault) = IsUnfinished rest
EndFits rest ended transcript (Some WriteFault) = Unit {0}
EndFits rest ended transcript (Some NoMemory) = Unit {0}

-- the input ended between frames, or with the front of one
abbrev pub end_of_input : ℕ → SessionEnd
end_of_input got = if got == 0 then Closed else Truncated got

-- the frames of the calls stand at the front of the input, one after the other, and the end is as the rest shows
pub record Fits (input : List ℕ) (ended : Bool) (transcript : Transcript) : Type 0 where
  pub rest : List ℕ
  pub frames : input ≡ flat_map (λ call. framed call.frame) transcript.calls ++ rest
  pub each : AllByRecursion (λ call. IsFrameBody call.frame) transcript.calls
  pub end : EndFits rest ended transcript transcript.end

-- the states from which the reply of a call is computed, where it has one
abbrev pub ShowsFor : Account → List Step → List Point → CallHow → List Shown → Type 0
ShowsFor account steps finish Quiet shown = ⊥
ShowsFor account steps finish AtOnce shown = shown ≡ shown_as_accepted account steps
ShowsFor account steps finish (Satisfied by) shown = shown ≡ shown_as_completed account steps finish
ShowsFor account steps finish (Expired by) shown =
    (clock : Point) × (looks : List Point) × (finish ≡ clock ∷ looks) × (shown ≡ shown_as_completed account steps looks)
ShowsFor account steps finish Parked shown = ⊥
ShowsFor account steps finish (Cut won) shown = ⊥

-- the reply of a call is Kafka's answer at its own points
pub record IsReplyOf (account : Account) (call : Call) (reply : Reply) : Type 0 where
  pub whole : IsAccepted account call
  pub shown : List Shown
  pub shows : ShowsFor account whole.steps call.finish call.how shown
  pub answered : reply ≡ answer account.config whole.request shown

abbrev pub is_answered : CallHow → Bool
is_answered Quiet = false
is_answered AtOnce = true
is_answered (Satisfied by) = true
is_answered (Expired by) = true
is_answered Parked = false
is_answered (Cut won) = false

-- the calls that have a reply
abbrev pub answered_of : List Call → List Call
answered_of calls = filter (λ call. is_answered call.how) calls

-- these are the replies of the calls, in order
abbrev pub HasReplies : Account → List Call → List Reply → Type 0
HasReplies account calls replies = AllZip (IsReplyOf account) (answered_of calls) replies

-- the bytes that a session was sent: the replies of its calls, one after the other
abbrev pub sent : List Reply → List ℕ
sent replies = flat_map spelling replies
