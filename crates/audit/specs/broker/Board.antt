-- What the one-thread broker keeps: the histories, what each session received and did, and one list of the requests that wait,
-- in no order. The account of a run is read off it.
use Rattle.std.specs.Prelude.{ℕ, ◌+◌, ◌/◌, Bool, false, List, [], ◌∷◌, length, map, replicate, count_by, Option, None, option_to_list, unwrap_or, slice_get}
use Rattle.std.specs.List.{flat_map}
use Rattle.partlog.specs.declared.clock_event.ClockEvent.{ClockEvent}
use Rattle.partlog.specs.History.{History}
use Rattle.partlog.specs.State.{state_of}
use Rattle.kanswer.specs.Waiting.{gauge_value}
use Rattle.opcond.specs.declared.need.Need.{Need}
use Rattle.audit.specs.declared.account.Account.{Account}
use Rattle.audit.specs.declared.account.PartAccount.{PartAccount}
use Rattle.audit.specs.declared.account.Transcript.{Transcript}
use Rattle.kwire.specs.declared.request.Request.{Request}
use Rattle.kwire.specs.Configuration.{Configuration, followers_of}
use Rattle.opcond.specs.Operation.{Operation}
use Rattle.audit.specs.Histories.{calls_in, part_account}
use Rattle.audit.specs.LawfulCall.{Step}
use Rattle.audit.specs.IsLawful.{is_won_by}
use Rattle.trace_file.specs.declared.line.TheConstants.{MOST_SESSIONS}

-- a session: what it received and nobody has handled yet, whether its input ended, and what it did, once a line named it
pub record Seat : Type 0 where
  pub inbox : List ℕ
  pub is_shut : Bool
  pub transcript : Option Transcript

-- a request that waits: of which session, what became of each partition that it names, and the operation
pub record Waiting : Type 0 where
  pub session : ℕ
  pub request : Request
  pub steps : List Step
  pub operation : Operation

pub record Board : Type 0 where
  pub config : Configuration
  pub parts : List History
  pub clock : List ClockEvent
  pub seats : List Seat
  pub waiting : List Waiting

-- the sessions that there may be
abbrev pub most_sessions : ℕ
most_sessions = MOST_SESSIONS

abbrev pub empty_seat : Seat
empty_seat = record { inbox = []; is_shut = false; transcript = None }

abbrev pub empty_history : ℕ → History
empty_history followers = record { log = []; followers = followers; events = [] }

-- before the first line
abbrev pub opening : Configuration → Board
opening config = record {
  config = config;
  parts = map empty_history (followers_of config.topics);
  clock = [];
  seats = replicate most_sessions empty_seat;
  waiting = [];
}

abbrev pub history_at : List History → ℕ → History
history_at parts part = unwrap_or (slice_get parts part) (empty_history 0)

-- the value of a need's gauge
abbrev pub gauge_now : List History → Need → ℕ
gauge_now parts need = gauge_value need.gauge (state_of (history_at parts (need.gauge / 3)))

abbrev pub seat_at : Board → ℕ → Seat
seat_at board session = unwrap_or (slice_get board.seats session) empty_seat

abbrev pub new_transcript : ℕ → Transcript
new_transcript session = record { number = session; first = 0; calls = []; end = None }

abbrev pub transcript_at : Board → ℕ → Transcript
transcript_at board session = unwrap_or (seat_at board session).transcript (new_transcript session)

-- the number of the session's next call
abbrev pub next_call : Board → ℕ → ℕ
next_call board session = (transcript_at board session).first + length (transcript_at board session).calls

-- one list for each session up to the greatest that was named
abbrev pub put_before : List Transcript → List (List Transcript) → List (List Transcript)
put_before [] [] = []
put_before [] (pass ∷ passes) = [] ∷ pass ∷ passes
put_before (transcript ∷ transcripts) passes = (transcript ∷ transcripts) ∷ passes

abbrev pub passes_of : List Seat → List (List Transcript)
passes_of [] = []
passes_of (seat ∷ seats) = put_before (option_to_list seat.transcript) (passes_of seats)

-- the account of what was done so far, with one winner, number 0
abbrev pub account_of : Board → Account
account_of board = record {
  config = board.config;
  parts = map part_account board.parts;
  clock = board.clock;
  passes = passes_of board.seats;
  wins = count_by (is_won_by 0) (flat_map calls_in (passes_of board.seats)) ∷ [];
}
