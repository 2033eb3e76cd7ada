-- The course of a follower over the bytes that come from its leader: it asks and takes, round after round, until the last round, a refusal,
-- or bytes that don't begin with a whole frame.
use Rattle.std.specs.Prelude.{◌≡◌, ◌≢◌, ◌<◌, ◌⊎◌, ℕ, ◌+◌, pos, List, [], ◌∷◌, ◌++◌, length}
use Rattle.std.specs.Io.KnownBytes.{IsAtEnd}
use Rattle.std.specs.List.{AllByRecursion, flat_map}
use Rattle.kwire.specs.Frames.{IsFrameBody, framed, next_frame_of}
use Rattle.kwire.specs.declared.frame.Frame.TheVariants as front
use Rattle.outside.specs.Causes.{Rose}
use Rattle.follower.specs.Asking.{asked_frame}
use Rattle.follower.specs.Copies.{Copy}
use Rattle.follower.specs.Flows.{HasFlowed, LinkView}
use Rattle.follower.specs.Verdict.{HasTaken, IsRefused}
use Rattle.follower.specs.declared.fault.FollowEnd.{FollowEnd}
use Rattle.follower.specs.declared.fault.FollowEnd.TheVariants.{Done, Closed, Truncated, FrameTooLong, Take, ReadFault, WriteFault, NoMemory}

-- whole rounds from this number on: the copy takes the bodies, one a round, and these are the frames with which it asked
abbrev pub HasGone : ℕ → Copy → List (List ℕ) → List ℕ → Copy → Type 0
HasGone round old [] asked new = (asked ≡ []) × (new ≡ old)
HasGone round old (body ∷ bodies) asked new =
    (count : ℕ) × (mid : Copy) × (later : List ℕ) × HasTaken old (pos round) body count mid × (asked ≡ asked_frame old (pos round) ++ later)
    × HasGone (round + 1) mid bodies later new

-- How the round after these breaks off, in which these bytes were written last, and behind whose earlier replies this rest came. The request was
-- written whole, and the rest shows the end, or a reply is refused, or reading failed. Or a proper part of the request alone was written, as
-- writing failed; or memory ran out before it or behind it.
abbrev pub BreaksSo : FollowEnd → ℕ → Copy → List ℕ → List ℕ → LinkView → LinkView → Type 0
BreaksSo Done round copy last rest before now = ⊥
BreaksSo Closed round copy last rest before now = (last ≡ asked_frame copy (pos round)) × (rest ≡ []) × IsAtEnd now.left
BreaksSo (Truncated got) round copy last rest before now =
    (last ≡ asked_frame copy (pos round)) × (length rest ≡ got) × (0 < got) × (next_frame_of rest ≡ front.NotYet) × IsAtEnd now.left
BreaksSo (FrameTooLong size) round copy last rest before now = (last ≡ asked_frame copy (pos round)) × (next_frame_of rest ≡ front.TooLong size)
BreaksSo (Take fault) round copy last rest before now =
    (last ≡ asked_frame copy (pos round)) × (body : List ℕ) × (more : List ℕ) × (rest ≡ framed body ++ more) × IsFrameBody body × IsRefused copy (pos round) body fault
BreaksSo ReadFault round copy last rest before now =
    (last ≡ asked_frame copy (pos round)) × (next_frame_of rest ≡ front.NotYet) × Rose before.faults now.faults
BreaksSo WriteFault round copy last rest before now =
    (missing : List ℕ) × (asked_frame copy (pos round) ≡ last ++ missing) × (missing ≢ []) × Rose before.faults now.faults
BreaksSo NoMemory round copy last rest before now = (last ≡ []) ⊎ (last ≡ asked_frame copy (pos round))

-- all rounds were made
pub record IsDone (rounds : ℕ) (end : FollowEnd) (made : ℕ) (asked output : List ℕ) : Type 0 where
  pub end_is : end ≡ Done
  pub all : made ≡ rounds
  pub written : output ≡ asked

-- or the next one broke off
pub record IsBroken (rounds : ℕ) (end : FollowEnd) (made : ℕ) (asked output : List ℕ) (copy : Copy) (rest : List ℕ) (before now : LinkView) : Type 0 where
  pub fewer : made < rounds
  pub last : List ℕ
  pub written : output ≡ asked ++ last
  pub why : BreaksSo end made copy last rest before now

-- what a follower has done: the bytes that it took from the link are the replies of whole rounds and a rest, what it wrote are their
-- requests and those of the round that broke off, and it ends as the rest shows
pub record HasFollowed (rounds : ℕ) (old new : Copy) (end : FollowEnd) (before now : LinkView) : Type 0 where
  pub input : List ℕ
  pub output : List ℕ
  pub flowed : HasFlowed input output before now
  pub bodies : List (List ℕ)
  pub rest : List ℕ
  pub parts : input ≡ flat_map framed bodies ++ rest
  pub each : AllByRecursion IsFrameBody bodies
  pub asked : List ℕ
  pub gone : HasGone 0 old bodies asked new
  pub ends : IsDone rounds end (length bodies) asked output ⊎ IsBroken rounds end (length bodies) asked output new rest before now
