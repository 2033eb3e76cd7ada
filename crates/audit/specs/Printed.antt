-- What is printed of an account.
use Rattle.std.specs.Prelude.{ℕ, ◌+◌, ◌≡◌, Bool, true, false, List, [], ◌∷◌, ◌++◌, length, sum_by, codes, if◌then◌else◌, Option, Some, None}
use Rattle.std.specs.List.{flat_map, zip, AllZip}
use Rattle.std.specs.Fmt.{decimal, signed_decimal}
use Rattle.partlog.specs.State.{PartState as State, state_of}
use Rattle.audit.specs.declared.account.Account.{Account}
use Rattle.audit.specs.declared.account.PartAccount.{PartAccount}
use Rattle.audit.specs.declared.account.Transcript.{Transcript}
use Rattle.audit.specs.declared.account.Call.{Call}
use Rattle.audit.specs.declared.account.CallHow.{CallHow}
use Rattle.audit.specs.declared.account.CallHow.TheVariants.{Quiet, AtOnce, Satisfied, Expired, Parked, Cut}
use Rattle.audit.specs.declared.account.SessionEnd.{SessionEnd}
use Rattle.audit.specs.declared.account.SessionEnd.TheVariants as ends
use Rattle.kwire.specs.declared.frame.WireFault.{WireFault}
use Rattle.kwire.specs.declared.frame.WireFault.TheVariants as refusals
use Rattle.kwire.specs.declared.reply.Reply.{Reply}
use Rattle.trace_file.specs.PrintedLine.{line_of, reply_line}
use Rattle.audit.specs.Histories.{history_of}
use Rattle.audit.specs.Fits.{HasReplies, answered_of}

abbrev pub refusal_words : WireFault → List (List ℕ)
refusal_words (refusals.BadRequest at) = codes "bad-request" ∷ decimal at ∷ []
refusal_words (refusals.UnknownApi key) = codes "unknown-api" ∷ signed_decimal key ∷ []
refusal_words (refusals.Unsupported key version) = codes "unsupported" ∷ signed_decimal key ∷ signed_decimal version ∷ []
refusal_words (refusals.TooMany count) = codes "too-many" ∷ decimal count ∷ []
refusal_words (refusals.Twice topic partition) = codes "twice" ∷ decimal topic ∷ signed_decimal partition ∷ []
refusal_words refusals.NoMemory = codes "no-memory" ∷ []

abbrev pub end_words : SessionEnd → List (List ℕ)
end_words ends.Closed = codes "closed" ∷ []
end_words (ends.Truncated got) = codes "truncated" ∷ decimal got ∷ []
end_words (ends.FrameTooLong size) = codes "too-long" ∷ signed_decimal size ∷ []
end_words (ends.Refused why) = codes "refused" ∷ refusal_words why
end_words ends.CallsFull = codes "calls-full" ∷ []
end_words ends.ReadFault = codes "read-fault" ∷ []
end_words ends.WriteFault = codes "write-fault" ∷ []
end_words ends.NoMemory = codes "no-memory" ∷ []

-- `end S NAME`, where the session ended
abbrev pub end_line : ℕ → Option SessionEnd → List ℕ
end_line session None = []
end_line session (Some end) = line_of (codes "end" ∷ decimal session ∷ end_words end)

abbrev pub last_state_of : PartAccount → State
last_state_of part = state_of (history_of part)

-- `part P end E high H batches B bytes Y`
abbrev pub part_line : ℕ × PartAccount → List ℕ
part_line (number, part) =
    line_of (codes "part" ∷ decimal number ∷ codes "end" ∷ decimal (last_state_of part).log_end ∷ codes "high" ∷ decimal (last_state_of part).high
    ∷ codes "batches" ∷ decimal (length (last_state_of part).batches) ∷ codes "bytes" ∷ decimal (length part.log) ∷ [])

-- the same without the high watermark
abbrev pub short_part_line : ℕ × PartAccount → List ℕ
short_part_line (number, part) =
    line_of (codes "part" ∷ decimal number ∷ codes "end" ∷ decimal (last_state_of part).log_end
    ∷ codes "batches" ∷ decimal (length (last_state_of part).batches) ∷ codes "bytes" ∷ decimal (length part.log) ∷ [])

abbrev pub is_parked : CallHow → Bool
is_parked Quiet = false
is_parked AtOnce = false
is_parked (Satisfied by) = false
is_parked (Expired by) = false
is_parked Parked = true
is_parked (Cut won) = false

-- 1 where the last call is parked, else 0
abbrev pub parked_of : List Call → ℕ
parked_of [] = 0
parked_of (call ∷ []) = if is_parked call.how then 1 else 0
parked_of (call ∷ next ∷ calls) = parked_of (next ∷ calls)

abbrev pub replies_in : Transcript → ℕ
replies_in transcript = length (answered_of transcript.calls)

-- `session S calls C replies R parked K`
abbrev pub session_line : Transcript → List ℕ
session_line transcript =
    line_of (codes "session" ∷ decimal transcript.number ∷ codes "calls" ∷ decimal (length transcript.calls)
    ∷ codes "replies" ∷ decimal (replies_in transcript) ∷ codes "parked" ∷ decimal (parked_of transcript.calls) ∷ [])

abbrev pub link_end : Option SessionEnd → List (List ℕ)
link_end None = []
link_end (Some end) = end_words end

-- `link N calls C replies R NAME`
abbrev pub link_line : Transcript → List ℕ
link_line transcript =
    line_of (codes "link" ∷ decimal transcript.number ∷ codes "calls" ∷ decimal (length transcript.calls)
    ∷ codes "replies" ∷ decimal (replies_in transcript) ∷ link_end transcript.end)

abbrev pub done_line : List ℕ
done_line = line_of (codes "done" ∷ [])

abbrev pub numbered : ℕ → List PartAccount → List (ℕ × PartAccount)
numbered n [] = []
numbered n (part ∷ parts) = (n, part) ∷ numbered (n + 1) parts

abbrev pub transcripts_of : Account → List Transcript
transcripts_of account = flat_map (λ transcripts. transcripts) account.passes

-- what stands behind the trace's `end`: every partition, every session, and `done`
abbrev pub summary_of : Account → List ℕ
summary_of account =
    flat_map part_line (numbered 0 account.parts) ++ flat_map session_line (transcripts_of account) ++ done_line

-- `sessions N calls C replies R parked K`, the sums over all sessions
abbrev pub sessions_line : List Transcript → List ℕ
sessions_line transcripts =
    line_of (codes "sessions" ∷ decimal (length transcripts) ∷ codes "calls" ∷ decimal (sum_by (λ t. length t.calls) transcripts)
    ∷ codes "replies" ∷ decimal (sum_by replies_in transcripts) ∷ codes "parked" ∷ decimal (sum_by (λ t. parked_of t.calls) transcripts) ∷ [])

-- what a storm prints
abbrev pub storm_summary_of : Account → List ℕ
storm_summary_of account =
    flat_map short_part_line (numbered 0 account.parts) ++ sessions_line (transcripts_of account) ++ done_line

-- the replies of a session, and how it ended
abbrev pub session_text : Transcript × List Reply → List ℕ
session_text (transcript, replies) =
    flat_map (reply_line transcript.number) replies ++ end_line transcript.number transcript.end

-- session by session what it was sent, then the summary
pub record IsPrintOf (account : Account) (text : List ℕ) : Type 0 where
  pub replies : List (List Reply)
  pub sent : AllZip (λ transcript sent. HasReplies account transcript.calls sent) (transcripts_of account) replies
  pub spelled : text ≡ flat_map session_text (zip (transcripts_of account) replies) ++ summary_of account
