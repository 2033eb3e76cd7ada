-- The lines of a session's replies, which are kept as it is answered.
use Rattle.std.specs.Prelude.{ℕ, ◌≡◌, ◌≢◌, ◌≤◌, All, Any, true, List, [], ◌∷◌, ◌++◌, Option, Some, None, IfSome, codes, slice_get, ⊤}
use Rattle.std.specs.Fmt.{decimal}
use Rattle.std.specs.List.{flat_map}
use Rattle.hex.specs.Hex.{encode_lower}
use Rattle.audit.specs.declared.account.Account.{Account}
use Rattle.audit.specs.declared.account.Call.{Call}
use Rattle.audit.specs.declared.account.Transcript.{Transcript}
use Rattle.audit.specs.Fits.{HasReplies}
use Rattle.audit.specs.broker.GoesOn.{Carried}
use Rattle.audit.specs.retelling.Shares.{IsTextOf}
use Rattle.kwire.specs.declared.reply.Reply.{Reply}
use Rattle.shared_broker.specs.Finding.{bytes_at}
use Rattle.shared_broker.specs.Passes.{PassView}
use Rattle.trace_file.specs.PrintedLine.{line_of, reply_line}
use Rattle.trace_workers.specs.declared.print_part.PrintPart.{PrintPart}
use Rattle.trace_workers.specs.Sessions.{DeskView, HasLines}

-- the line of a frame that a session was sent
abbrev pub frame_line : ℕ → List ℕ → List ℕ
frame_line session frame = line_of (codes "reply" ∷ decimal session ∷ encode_lower frame ∷ [])

-- what is printed of a part, in the account of the run
abbrev pub part_text : Account → PrintPart → List ℕ
part_text account (PrintPart.Text text) = text
part_text account (PrintPart.Reply session frame) = frame_line session frame
part_text account (PrintPart.Stored session head range) = frame_line session (head ++ bytes_at account range)

-- parts, one after the other
abbrev pub joined : Account → List PrintPart → List ℕ
joined account parts = flat_map (part_text account) parts

-- the lines of these replies
abbrev pub lines_of : ℕ → List Reply → List ℕ
lines_of session replies = flat_map (reply_line session) replies

-- these lines are those of the replies to these calls, in the account
abbrev pub AreLinesOf : Account → ℕ → List Call → List Reply → List ℕ → Type 0
AreLinesOf account session calls replies text = HasReplies account calls replies × (text ≡ lines_of session replies)

-- Where lines are kept, they are those of the replies to these calls, in every account that goes on from what the pass has seen.
abbrev pub AreKept : Option (List PrintPart) → ℕ → PassView → List Call → Type 0
AreKept None session pass calls = ⊤
AreKept (Some parts) session pass calls =
    (replies : List Reply) × Carried pass.config pass.logs.parts pass.logs.clock (λ account. AreLinesOf account session calls replies (joined account parts))

-- where lines are kept, that of this frame comes after the others
abbrev pub HasPut : ℕ → List ℕ → Option (List PrintPart) → Option (List PrintPart) → Type 0
HasPut session frame None now = now ≡ None
HasPut session frame (Some before) now =
    (after : List PrintPart) × (now ≡ Some after) × ((account : Account) → joined account after ≡ joined account before ++ frame_line session frame)

-- where lines are kept, they are the same in every account that goes on from what the pass has seen
abbrev pub AreSame : PassView → Option (List PrintPart) → Option (List PrintPart) → Type 0
AreSame pass None now = now ≡ None
AreSame pass (Some before) now =
    (after : List PrintPart) × (now ≡ Some after) × Carried pass.config pass.logs.parts pass.logs.clock (λ account. joined account after ≡ joined account before)

-- none, so far
abbrev pub IsFresh : Option (List PrintPart) → Type 0
IsFresh kept = IfSome kept (λ parts. (account : Account) → joined account parts ≡ [])

-- the lines of the replies to these calls, in the account
abbrev pub AreLines : Account → ℕ → List Call → List ℕ → Type 0
AreLines account session calls text = (replies : List Reply) × AreLinesOf account session calls replies text

-- The pass of this number has one transcript, of the session of the same number, and these are the lines of its replies; or it has none.
abbrev pub IsToldBy : Account → ℕ → List Transcript → List ℕ → Type 0
IsToldBy account number [] text = ⊤
IsToldBy account number (transcript ∷ []) text = (transcript.number ≡ number) × AreLines account number transcript.calls text
IsToldBy account number (transcript ∷ next ∷ transcripts) text = ⊥

pub record IsToldIn (account : Account) (number : ℕ) (text : List ℕ) : Type 0 where
  pub transcripts : List Transcript
  pub there : slice_get account.passes number ≡ Some transcripts
  pub told : IsToldBy account number transcripts text

-- where the session kept lines, they are those of its replies in the account
abbrev pub HasKept : Account → DeskView → Type 0
HasKept account desk = IfSome desk.kept (λ parts. IsToldIn account desk.number (joined account parts))

-- each pass that has a transcript has a desk of its number
abbrev pub HaveDesks : Account → List DeskView → Type 0
HaveDesks account desks =
    (number : ℕ) (transcripts : List Transcript) → slice_get account.passes number ≡ Some transcripts → transcripts ≢ [] → Any (λ (desk : DeskView). desk.number ≡ number) desks

-- the desks of this number and of greater ones have the lines of their replies
abbrev pub HaveLinesFrom : ℕ → List DeskView → Type 0
HaveLinesFrom number desks = All (λ (desk : DeskView). number ≤ desk.number → HasLines true desk) desks

-- what is printed of the pass of this number was put behind what stood there
abbrev pub HasPutPass : Account → ℕ → List ℕ → List ℕ → Type 0
HasPutPass account number before after =
    (transcripts : List Transcript) × (slice_get account.passes number ≡ Some transcripts) × (text : List ℕ) × IsTextOf account transcripts text × (after ≡ before ++ text)
