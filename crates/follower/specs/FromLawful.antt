-- A follower of a broker whose account is lawful: the bytes that flow between them, what its copy is to the partition's log, and for which
-- causes a reply of such a broker may be refused.
use Rattle.std.specs.Prelude.{◌≡◌, ◌≤◌, ◌⊎◌, ℕ, List, ◌∷◌, ◌++◌, Some, slice_get, ⊤}
use Rattle.std.specs.List.{AllByRecursion, flat_map}
use Rattle.audit.specs.Fits.{HasReplies, sent}
use Rattle.audit.specs.IsLawful.{IsLawful}
use Rattle.audit.specs.declared.account.Account.{Account}
use Rattle.audit.specs.declared.account.PartAccount.{PartAccount}
use Rattle.audit.specs.declared.account.Transcript.{Transcript}
use Rattle.kwire.specs.Configuration.{part_of, partitions_of}
use Rattle.kwire.specs.Frames.{IsFrameBody, framed}
use Rattle.kwire.specs.declared.codes.TheConstants.{OFFSET_OUT_OF_RANGE, REPLICA_NOT_AVAILABLE, UNKNOWN_TOPIC_OR_PARTITION}
use Rattle.kwire.specs.declared.config.TheConstants.{MOST_PARTITIONS}
use Rattle.kwire.specs.declared.reply.Reply.{Reply}
use Rattle.follower.specs.Copies.{Copy}
use Rattle.follower.specs.Kept.{IsKept}
use Rattle.follower.specs.declared.fault.TakeFault.{TakeFault}
use Rattle.follower.specs.declared.fault.TakeFault.TheVariants.{BadReply, Refused, BadBatch, Gap, ReplicaFull, NoMemory}

-- the copy is a prefix of the log that the account has of its partition, where there is such a partition
abbrev pub IsPrefixIn : Account → Copy → Type 0
IsPrefixIn account copy =
    (number : ℕ) (part : PartAccount) → part_of account.config copy.topic copy.index ≡ Some number → slice_get account.parts number ≡ Some part
    → (rest : List ℕ) × (part.log ≡ copy.log ++ rest)

-- the transcript is that of a session of the account
pub record IsSessionOf (account : Account) (session : Transcript) : Type 0 where
  pub pass : ℕ
  pub before : List Transcript
  pub after : List Transcript
  pub there : slice_get account.passes pass ≡ Some (before ++ session ∷ after)

-- A follower begins with this copy over a session of a broker whose account is lawful, and the copy is a prefix of the log. What it writes
-- begins with the frames of the session's calls, and the bytes that it takes are the first of those that the session is sent, wherever they are
-- cut off.
pub record IsFollowing (account : Account) (session : Transcript) (copy : Copy) (taken written : List ℕ) : Type 0 where
  pub lawful : IsLawful account
  pub few : partitions_of account.config.topics ≤ MOST_PARTITIONS
  pub session_of : IsSessionOf account session
  pub small : AllByRecursion (λ call. IsFrameBody call.frame) session.calls
  pub unread : List ℕ
  pub asked : written ≡ flat_map (λ call. framed call.frame) session.calls ++ unread
  pub replies : List Reply
  pub replied : HasReplies account session.calls replies
  pub untaken : List ℕ
  pub answered : sent replies ≡ taken ++ untaken
  pub kept : IsKept copy
  pub prefix : IsPrefixIn account copy

-- The causes for which it may take nothing of a reply: the copy is longer than the log was then, there is no such partition or no such
-- replica, or the copy's own log is full.
abbrev pub MayBeRefused : TakeFault → Type 0
MayBeRefused (BadReply at) = ⊥
MayBeRefused (Refused code) = (code ≡ OFFSET_OUT_OF_RANGE) ⊎ (code ≡ UNKNOWN_TOPIC_OR_PARTITION) ⊎ (code ≡ REPLICA_NOT_AVAILABLE)
MayBeRefused (BadBatch at why) = ⊥
MayBeRefused (Gap kept found) = ⊥
MayBeRefused ReplicaFull = ⊤
MayBeRefused NoMemory = ⊤
