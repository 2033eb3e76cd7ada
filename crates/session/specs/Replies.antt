-- The bytes of the replies to a session's calls, in every account that goes on from what the pass has seen.
use Rattle.std.specs.Prelude.{◌≡◌, ◌≢◌, ℕ, List, [], ◌∷◌, ◌++◌}
use Rattle.audit.specs.declared.account.Call.{Call}
use Rattle.audit.specs.declared.account.SessionEnd.{SessionEnd}
use Rattle.audit.specs.declared.account.SessionEnd.TheVariants.{Closed, Truncated, FrameTooLong, Refused, CallsFull, ReadFault, WriteFault, NoMemory}
use Rattle.audit.specs.Fits.{HasReplies, IsReplyOf, sent}
use Rattle.audit.specs.broker.GoesOn.{Carried}
use Rattle.kwire.specs.declared.reply.Reply.{Reply}
use Rattle.kwire.specs.Spelling.{spelling}
use Rattle.shared_broker.specs.Passes.{PassView}

-- these are the replies of the calls that have one, in order, and nothing else
pub record AreReplies (pass : PassView) (calls : List Call) (bytes : List ℕ) : Type 0 where
  pub replies : List Reply
  pub replied : Carried pass.config pass.logs.parts pass.logs.clock (λ account. HasReplies account calls replies)
  pub bytes_are : bytes ≡ sent replies

-- these are the replies of all calls but the last, and then a proper prefix of the last one's
pub record AreCutReplies (pass : PassView) (calls : List Call) (bytes : List ℕ) : Type 0 where
  pub earlier : List Call
  pub last : Call
  pub calls_are : calls ≡ earlier ++ last ∷ []
  pub whole : List ℕ
  pub before : AreReplies pass earlier whole
  pub reply : Reply
  pub replied : Carried pass.config pass.logs.parts pass.logs.clock (λ account. IsReplyOf account last reply)
  pub part : List ℕ
  pub missing : List ℕ
  pub spelled : spelling reply ≡ part ++ missing
  pub proper : missing ≢ []
  pub bytes_are : bytes ≡ whole ++ part

-- what a session that ended so has written
abbrev pub IsWritten : SessionEnd → PassView → List Call → List ℕ → Type 0
IsWritten Closed pass calls bytes = AreReplies pass calls bytes
IsWritten (Truncated got) pass calls bytes = AreReplies pass calls bytes
IsWritten (FrameTooLong size) pass calls bytes = AreReplies pass calls bytes
IsWritten (Refused why) pass calls bytes = AreReplies pass calls bytes
IsWritten CallsFull pass calls bytes = AreReplies pass calls bytes
IsWritten ReadFault pass calls bytes = AreReplies pass calls bytes
IsWritten WriteFault pass calls bytes = AreCutReplies pass calls bytes
IsWritten NoMemory pass calls bytes = AreReplies pass calls bytes
