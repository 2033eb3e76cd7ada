-- What is printed of some of an account's sessions.
use Rattle.std.specs.Prelude.{ℕ, ◌≡◌, List}
use Rattle.std.specs.List.{AllZip, flat_map, zip}
use Rattle.kwire.specs.declared.reply.Reply.{Reply}
use Rattle.audit.specs.declared.account.Account.{Account}
use Rattle.audit.specs.declared.account.Transcript.{Transcript}
use Rattle.audit.specs.Fits.{HasReplies}
use Rattle.audit.specs.Printed.{session_text}

-- the sessions of some passes, in order
abbrev pub sessions_in : List (List Transcript) → List Transcript
sessions_in passes = flat_map (λ transcripts. transcripts) passes

-- session by session what it was sent, and how it ended
abbrev pub IsTextOf : Account → List Transcript → List ℕ → Type 0
IsTextOf account transcripts text =
    (all : List (List Reply)) × AllZip (λ transcript sent. HasReplies account transcript.calls sent) transcripts all × (text ≡ flat_map session_text (zip transcripts all))
