-- Small boards, written out: a produce that waits for its follower, before that one fetched, after it, about its deadline, and as
-- the follower leaves. A wrong word among those that scan a board, or tell it the time, would break what is shown of them.
use Rattle.std.specs.Prelude.{ℕ, ℤ, pos, negsuc, false, List, [], ◌∷◌, codes, replicate, Some, None}
use Rattle.partlog.specs.declared.event.PartEvent.{PartEvent}
use Rattle.partlog.specs.declared.event.PartEvent.TheVariants.{Append, Follow}
use Rattle.partlog.specs.declared.clock_event.ClockEvent.{ClockEvent}
use Rattle.partlog.specs.declared.clock_event.ClockEvent.TheVariants as clocks
use Rattle.audit.specs.declared.account.Call.{Call}
use Rattle.audit.specs.declared.account.CallHow.{CallHow}
use Rattle.audit.specs.declared.account.CallHow.TheVariants.{Parked}
use Rattle.audit.specs.declared.account.Point.{Point}
use Rattle.audit.specs.Histories.{clock_part}
use Rattle.audit.specs.Worked.{at, followed, produce_of}
use Rattle.kwire.specs.declared.reply.Reply.{Reply}
use Rattle.kwire.specs.declared.reply.Told.TheVariants.{Produced}
use Rattle.kanswer.specs.declared.accepted.Accepted.TheVariants.{Appended}
use Rattle.kanswer.specs.Waiting.{operation_of}
use Rattle.audit.specs.broker.Board.{Board, Seat, Waiting, empty_seat}

-- it was put first and waits, or came to its end so
abbrev pub produced : List ℕ → List Point → CallHow → Call
produced all finish how = record { frame = all; accept = at 0 0 ∷ at clock_part 0 ∷ []; finish = finish; how = how }

abbrev pub seat_of : ℕ → Call → Seat
seat_of session call = record { inbox = []; is_shut = false; transcript = Some (record { number = session; first = 0; calls = call ∷ []; end = None }) }

-- the request of a session, which waits at most 100 ms for the follower to fetch behind its record
abbrev pub waits_for_all : ℕ → List ℕ → Waiting
waits_for_all session batch = record {
  session = session;
  request = produce_of (negsuc 0) batch;
  steps = record { result = Appended 0 0 1; point = Some (at 0 0) } ∷ [];
  operation = operation_of (produce_of (negsuc 0) batch).ask (Appended 0 0 1 ∷ []) 0;
}

-- its record was put, and then these entries came; the clock was looked at, and then told this
abbrev pub board_with : List ℕ → List ℕ → List PartEvent → List ClockEvent → Board
board_with all batch events ticks = record {
  config = followed;
  parts = record { followers = 1; log = 9 ∷ []; events = Append 0 0 1 1 ∷ events } ∷ [];
  clock = clocks.Look 0 0 ∷ ticks;
  seats = seat_of 0 (produced all [] Parked) ∷ replicate 63 empty_seat;
  waiting = waits_for_all 0 batch ∷ [];
}

-- the follower fetched behind the record, or only the record itself
abbrev pub fetched_behind : List PartEvent
fetched_behind = Follow 1 0 (pos 1) 1 0 ∷ []

abbrev pub fetched_it : List PartEvent
fetched_it = Follow 1 0 (pos 1) 0 0 ∷ []

-- nobody fetched it, and the topic asks for so many replicas in sync at least
abbrev pub asking_for : ℕ → List ℕ → List ℕ → Board
asking_for least all batch = record (board_with all batch [] []) {
  config = record { port = 9092; topics = record { name = codes "t"; partitions = 1; followers = 1; min_insync = least } ∷ [] };
}

-- its reply, with this code
abbrev pub produced_with : ℤ → Reply
produced_with code = record {
  correlation = pos 7;
  told = Produced (pos 3) (record { name = codes "t"; parts = record { index = pos 0; code = code; base = pos 0; start = pos 0 } ∷ [] } ∷ []);
}
