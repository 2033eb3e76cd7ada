-- What a session's desk shows by itself.
use Rattle.std.specs.Prelude.{ℕ, ◌≡◌, ◌+◌, ◌-◌, ◌≤◌, List, length, take, drop, Option, Some, None, unwrap_or}
use Rattle.audit.specs.declared.account.TheConstants.{MOST_CALLS}
use Rattle.audit.specs.declared.account.Transcript.{Transcript}
use Rattle.audit.specs.broker.Board.{Seat, new_transcript}

abbrev pub transcript_of : ℕ → Seat → Transcript
transcript_of session seat = unwrap_or seat.transcript (new_transcript session)

-- the number of its next call
abbrev pub next_of : ℕ → Seat → ℕ
next_of session seat = (transcript_of session seat).first + length (transcript_of session seat).calls

-- its calls are numbered from 0, and there are as many as a pass may have at most
abbrev pub IsNumbered : Option Transcript → Type 0
IsNumbered None = Unit {0}
IsNumbered (Some transcript) = (transcript.first ≡ 0) × (length transcript.calls ≤ MOST_CALLS)

-- the body of the frame at the front, which ends before this place
abbrev pub front_body : Seat → ℕ → List ℕ
front_body seat end = take (end - 4) (drop 4 seat.inbox)
