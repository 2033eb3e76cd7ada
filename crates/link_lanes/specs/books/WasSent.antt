-- The bytes that a session was sent, by the account of the run.
use Rattle.std.specs.Prelude.{◌≡◌, ◌≢◌, ℕ, List, [], ◌∷◌, ◌++◌}
use Rattle.audit.specs.declared.account.Account.{Account}
use Rattle.audit.specs.declared.account.Call.{Call}
use Rattle.audit.specs.declared.account.SessionEnd.{SessionEnd}
use Rattle.audit.specs.declared.account.SessionEnd.TheVariants.{Closed, Truncated, FrameTooLong, Refused, CallsFull, ReadFault, WriteFault, NoMemory}
use Rattle.audit.specs.Fits.{HasReplies, IsReplyOf, sent}
use Rattle.kwire.specs.declared.reply.Reply.{Reply}
use Rattle.kwire.specs.Spelling.{spelling}

-- these are the replies of the calls that have one, in order, and nothing else
pub record AreSent (account : Account) (calls : List Call) (bytes : List ℕ) : Type 0 where
  pub replies : List Reply
  pub replied : HasReplies account calls replies
  pub bytes_are : bytes ≡ sent replies

-- these are the replies of all calls but the last, and then a proper prefix of the last one's
pub record AreSentInPart (account : Account) (calls : List Call) (bytes : List ℕ) : Type 0 where
  pub earlier : List Call
  pub last : Call
  pub calls_are : calls ≡ earlier ++ last ∷ []
  pub whole : List ℕ
  pub before : AreSent account earlier whole
  pub reply : Reply
  pub replied : IsReplyOf account last reply
  pub part : List ℕ
  pub missing : List ℕ
  pub spelled : spelling reply ≡ part ++ missing
  pub proper : missing ≢ []
  pub bytes_are : bytes ≡ whole ++ part

-- what a session that ended so was sent
abbrev pub WasSent : Account → SessionEnd → List Call → List ℕ → Type 0
WasSent account Closed calls bytes = AreSent account calls bytes
WasSent account (Truncated got) calls bytes = AreSent account calls bytes
WasSent account (FrameTooLong size) calls bytes = AreSent account calls bytes
WasSent account (Refused why) calls bytes = AreSent account calls bytes
WasSent account CallsFull calls bytes = AreSent account calls bytes
WasSent account ReadFault calls bytes = AreSent account calls bytes
WasSent account WriteFault calls bytes = AreSentInPart account calls bytes
WasSent account NoMemory calls bytes = AreSent account calls bytes
