-- Which sessions of the one-thread broker can act, and what one does when it acts once: it handles its first whole frame, or ends.
use Rattle.std.specs.Prelude.{ℕ, ◌-◌, ◌≡◌, ◌⊎◌, Bool, true, false, ◌&&◌, not, List, length, take, drop, ◌==◌, Option, Some, None, MatchBool}
use Rattle.std.specs.List.{find, list_any, range_with_len}
use Rattle.audit.specs.declared.account.SessionEnd.{SessionEnd}
use Rattle.audit.specs.declared.account.SessionEnd.TheVariants.{FrameTooLong, Refused, CallsFull}
use Rattle.kwire.specs.declared.frame.Frame.{Frame}
use Rattle.kwire.specs.declared.frame.Frame.TheVariants.{Whole, NotYet, TooLong}
use Rattle.kwire.specs.declared.frame.WireFault.{WireFault}
use Rattle.kwire.specs.declared.request.Request.{Request}
use Rattle.kanswer.specs.Decisions.{Decision, Decides}
use Rattle.kwire.specs.Frames.{next_frame_of}
use Rattle.kwire.specs.IsRequest.{IsRequest}
use Rattle.kwire.specs.Refusal.{IsRefused}
use Rattle.audit.specs.declared.account.Transcript.{Transcript}
use Rattle.audit.specs.broker.Board.{Board, Seat, seat_at, transcript_at, next_call, most_sessions}
use Rattle.audit.specs.broker.Turns.{Turned, handled, ended}
use Rattle.audit.specs.declared.account.TheConstants.{MOST_CALLS}
-- how a session ends whose input ended
pub use Rattle.audit.specs.Fits.{end_of_input}

abbrev pub is_there : Option SessionEnd → Bool
is_there None = false
is_there (Some end) = true

-- a whole frame, one that is too long, or the end of the input
abbrev pub shows_work : Bool → Frame → Bool
shows_work is_shut (Whole end) = true
shows_work is_shut NotYet = is_shut
shows_work is_shut (TooLong size) = true

abbrev pub has_ended : Option Transcript → Bool
has_ended None = false
has_ended (Some transcript) = is_there transcript.end

-- it hasn't ended, and its inbox shows something to do
abbrev pub has_work : Seat → Bool
has_work seat = not (has_ended seat.transcript) && shows_work seat.is_shut (next_frame_of seat.inbox)

-- it hasn't ended, no request of it waits, and its inbox shows something to do
abbrev pub can_act : Board → ℕ → Bool
can_act board session =
    not (is_there (transcript_at board session).end) && (not (list_any (λ w. w.session == session) board.waiting)
    && shows_work (seat_at board session).is_shut (next_frame_of (seat_at board session).inbox))

-- the least session that can act
abbrev pub next_to_act : Board → Option ℕ
next_to_act board = find (can_act board) (range_with_len 0 most_sessions)

-- a frame is a request that is accepted, or is refused
abbrev pub HandlesFrame : Board → ℕ → List ℕ → Turned → Type 0
HandlesFrame board session body turned =
    ((request : Request) × (decisions : List Decision) × IsRequest body request × Decides board.config request.ask decisions
    × (turned ≡ handled board session body request decisions))
    ⊎ ((why : WireFault) × IsRefused body why × (turned ≡ ended board session (Refused why)))

-- a pass has at most 4,294,967,295 calls
abbrev pub ActsOn : Board → ℕ → Frame → Turned → Type 0
ActsOn board session (Whole end) turned =
    MatchBool (next_call board session == MOST_CALLS) (turned ≡ ended board session CallsFull)
    (HandlesFrame board session (take (end - 4) (drop 4 (seat_at board session).inbox)) turned)
ActsOn board session NotYet turned = turned ≡ ended board session (end_of_input (length (seat_at board session).inbox))
ActsOn board session (TooLong size) turned = turned ≡ ended board session (FrameTooLong size)

abbrev pub Acts : Board → ℕ → Turned → Type 0
Acts board session turned = ActsOn board session (next_frame_of (seat_at board session).inbox) turned
