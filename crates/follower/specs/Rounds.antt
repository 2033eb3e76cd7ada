-- A follower as it goes on: the bytes that come, and whole rounds.
use Rattle.std.specs.Prelude.{◌≡◌, ◌≢◌, ◌<◌, ℕ, pos, List, [], ◌++◌, length, Option, Some, None, Result, Ok, Err}
use Rattle.std.specs.Io.KnownBytes.{IsAtEnd}
use Rattle.std.specs.List.{AllByRecursion, flat_map}
use Rattle.kwire.specs.Frames.{IsFrameBody, framed, next_frame_of}
use Rattle.kwire.specs.declared.frame.Frame.TheVariants as front
use Rattle.outside.specs.Causes.{Rose}
use Rattle.follower.specs.Copies.{Copy}
use Rattle.follower.specs.Asking.{asked_frame}
use Rattle.follower.specs.Course.{BreaksSo, HasGone}
use Rattle.follower.specs.Flows.{HasFlowed, LinkView}
use Rattle.follower.specs.Verdict.{HasTaken, IsRefused}
use Rattle.follower.specs.declared.fault.TakeFault.{TakeFault}
use Rattle.follower.specs.declared.fault.TakeFault.TheVariants as causes
use Rattle.follower.specs.declared.fault.FollowEnd.{FollowEnd}
use Rattle.follower.specs.declared.fault.FollowEnd.TheVariants.{Done, Closed, Truncated, FrameTooLong, Take, ReadFault, WriteFault, NoMemory}

-- how the input ends with these bytes
abbrev pub IsOver : FollowEnd → List ℕ → Type 0
IsOver Done inbox = ⊥
IsOver Closed inbox = inbox ≡ []
IsOver (Truncated got) inbox = (length inbox ≡ got) × (0 < got) × (next_frame_of inbox ≡ front.NotYet)
IsOver (FrameTooLong size) inbox = ⊥
IsOver (Take fault) inbox = ⊥
IsOver ReadFault inbox = ⊥
IsOver WriteFault inbox = ⊥
IsOver NoMemory inbox = ⊥

-- why no whole frame comes after these bytes
abbrev pub StopsSo : FollowEnd → List ℕ → LinkView → LinkView → Type 0
StopsSo Done rest before now = ⊥
StopsSo Closed rest before now = IsOver Closed rest × IsAtEnd now.left
StopsSo (Truncated got) rest before now = IsOver (Truncated got) rest × IsAtEnd now.left
StopsSo (FrameTooLong size) rest before now = next_frame_of rest ≡ front.TooLong size
StopsSo (Take fault) rest before now = ⊥
StopsSo ReadFault rest before now = (next_frame_of rest ≡ front.NotYet) × Rose before.faults now.faults
StopsSo WriteFault rest before now = ⊥
StopsSo NoMemory rest before now = Unit {0}

-- more came, behind what was there, and no whole frame is there
pub record HasStopped (end : FollowEnd) (inbox : List ℕ) (before now : LinkView) : Type 0 where
  pub piece : List ℕ
  pub flowed : HasFlowed piece [] before now
  pub why : StopsSo end (inbox ++ piece) before now

-- more came, behind what was there
pub record HasMore (old new : List ℕ) (before now : LinkView) : Type 0 where
  pub piece : List ℕ
  pub flowed : HasFlowed piece [] before now
  pub inbox : new ≡ old ++ piece

abbrev pub HasRead : Option FollowEnd → List ℕ → List ℕ → LinkView → LinkView → Type 0
HasRead None old new before now = HasMore old new before now × (length old < length new)
HasRead (Some end) old new before now = HasStopped end old before now

abbrev pub HasFilled : Result ℕ FollowEnd → List ℕ → List ℕ → LinkView → LinkView → Type 0
HasFilled (Ok end) old new before now = HasMore old new before now × (next_frame_of new ≡ front.Whole end)
HasFilled (Err end) old new before now = HasStopped end old before now

-- a round was made: a request was written, and the reply to it taken
pub record HasRound (round : ℕ) (old new : Copy) (inbox left : List ℕ) (before now : LinkView) : Type 0 where
  pub piece : List ℕ
  pub flowed : HasFlowed piece (asked_frame old (pos round)) before now
  pub body : List ℕ
  pub small : IsFrameBody body
  pub parts : inbox ++ piece ≡ framed body ++ left
  pub count : ℕ
  pub taken : HasTaken old (pos round) body count new

-- a round broke off
pub record HasBroken (end : FollowEnd) (round : ℕ) (copy : Copy) (inbox : List ℕ) (before now : LinkView) : Type 0 where
  pub piece : List ℕ
  pub last : List ℕ
  pub flowed : HasFlowed piece last before now
  pub why : BreaksSo end round copy last (inbox ++ piece) before now

-- whole rounds were made, and these bytes are there that came after their replies
pub record IsGoing (old : Copy) (before : LinkView) (round : ℕ) (copy : Copy) (now : LinkView) (inbox : List ℕ) : Type 0 where
  pub input : List ℕ
  pub output : List ℕ
  pub flowed : HasFlowed input output before now
  pub bodies : List (List ℕ)
  pub parts : input ≡ flat_map framed bodies ++ inbox
  pub each : AllByRecursion IsFrameBody bodies
  pub round_is : length bodies ≡ round
  pub gone : HasGone 0 old bodies output copy

-- the reply at the front of what came was taken
pub record HasTakenFront (round : ℕ) (old new : Copy) (inbox left : List ℕ) : Type 0 where
  pub body : List ℕ
  pub small : IsFrameBody body
  pub parts : inbox ≡ framed body ++ left
  pub count : ℕ
  pub taken : HasTaken old (pos round) body count new

-- it was refused, or memory ran out
abbrev pub IsRefusedFront : FollowEnd → ℕ → Copy → List ℕ → Type 0
IsRefusedFront Done round copy inbox = ⊥
IsRefusedFront Closed round copy inbox = ⊥
IsRefusedFront (Truncated got) round copy inbox = ⊥
IsRefusedFront (FrameTooLong size) round copy inbox = ⊥
IsRefusedFront (Take fault) round copy inbox =
    (body : List ℕ) × (more : List ℕ) × (inbox ≡ framed body ++ more) × IsFrameBody body × IsRefused copy (pos round) body fault
IsRefusedFront ReadFault round copy inbox = ⊥
IsRefusedFront WriteFault round copy inbox = ⊥
IsRefusedFront NoMemory round copy inbox = Unit {0}

-- how following ends where a reply wasn't taken for this cause
abbrev pub EndsBy : TakeFault → FollowEnd → Type 0
EndsBy fault Done = ⊥
EndsBy fault Closed = ⊥
EndsBy fault (Truncated got) = ⊥
EndsBy fault (FrameTooLong size) = ⊥
EndsBy fault (Take other) = (other ≡ fault) × (fault ≢ causes.NoMemory)
EndsBy fault ReadFault = ⊥
EndsBy fault WriteFault = ⊥
EndsBy fault NoMemory = Unit {0}
