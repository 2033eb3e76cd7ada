-- What the one-thread broker does with a request, and with a session that ends.
use Rattle.std.specs.Prelude.{ℕ, ◌+◌, List, [], ◌∷◌, ◌++◌, length, drop, slice_set, if◌then◌else◌, Some}
use Rattle.partlog.specs.declared.clock_event.ClockEvent.TheVariants as clocks
use Rattle.partlog.specs.History.{History}
use Rattle.partlog.specs.Moment.{moment_of}
use Rattle.audit.specs.declared.account.Call.{Call}
use Rattle.audit.specs.declared.account.CallHow.{CallHow}
use Rattle.audit.specs.declared.account.CallHow.TheVariants.{Quiet, AtOnce, Parked}
use Rattle.audit.specs.declared.account.SessionEnd.{SessionEnd}
use Rattle.kwire.specs.declared.request.Ask.{Ask}
use Rattle.kwire.specs.declared.request.Request.{Request}
use Rattle.kanswer.specs.Decisions.{Decision}
use Rattle.kanswer.specs.Answer.{answer}
use Rattle.kwire.specs.Configuration.{Configuration}
use Rattle.kanswer.specs.Waiting.{Shown, becomes_delayed, is_quiet, operation_of, results_of}
use Rattle.audit.specs.LawfulCall.{step_points}
use Rattle.audit.specs.Histories.{clock_part}
use Rattle.audit.specs.Printed.{end_line}
use Rattle.trace_file.specs.PrintedLine.{reply_line}
use Rattle.audit.specs.broker.Board.{Board, Seat, seat_at, transcript_at, next_call}
use Rattle.audit.specs.broker.Entering.{Noted, accept_all, steps_of, shown_of}

-- what the broker keeps afterwards, and what it prints
pub record Turned : Type 0 where
  pub board : Board
  pub text : List ℕ

-- the session's first frame, which has this body, is taken out of its inbox, and the call stands after its others
abbrev pub seat_with : Board → ℕ → List ℕ → Call → Seat
seat_with board session body call = record (seat_at board session) {
  inbox = drop (4 + length body) (seat_at board session).inbox;
  transcript = Some (record (transcript_at board session) { calls = (transcript_at board session).calls ++ call ∷ [] });
}

abbrev pub with_call : Board → List History → ℕ → List ℕ → Call → Board
with_call board parts session body call =
    record board { parts = parts; seats = slice_set board.seats session (seat_with board session body call) }

-- a call that needn't wait
abbrev pub how_at_once : Ask → CallHow
how_at_once ask = if is_quiet ask then Quiet else AtOnce

-- what is printed of it
abbrev pub text_at_once : Configuration → ℕ → Request → List Shown → List ℕ
text_at_once config session request shown = if is_quiet request.ask then [] else reply_line session (answer config request shown)

abbrev pub answered_at_once : Board → ℕ → List ℕ → Request → List Noted × List History → Turned
answered_at_once board session body request (noted, parts) = record {
  board = with_call board parts session body (record {
    frame = body;
    accept = step_points (steps_of noted);
    finish = [];
    how = how_at_once request.ask;
  });
  text = text_at_once board.config session request (shown_of noted);
}

-- the clock is looked at, and its moment there is that from which the deadline counts
abbrev pub left_waiting : Board → ℕ → List ℕ → Request → List Noted × List History → Turned
left_waiting board session body request (noted, parts) =
    let clock = board.clock ++ clocks.Look session (next_call board session) ∷ [] in
    record {
      board = record (with_call board parts session body (record {
        frame = body;
        accept = step_points (steps_of noted) ++ record { part = clock_part; place = length board.clock } ∷ [];
        finish = [];
        how = Parked;
      })) {
        clock = clock;
        waiting = board.waiting ++ record {
          session = session;
          request = request;
          steps = steps_of noted;
          operation = operation_of request.ask (results_of (shown_of noted)) (moment_of clock);
        } ∷ [];
      };
      text = [];
    }

-- a request that was decided so is accepted, and is answered at once or waits
abbrev pub handled : Board → ℕ → List ℕ → Request → List Decision → Turned
handled board session body request decisions =
    let came = accept_all session (next_call board session) (moment_of board.clock) decisions board.parts in
    if becomes_delayed request.ask (shown_of came.0) then left_waiting board session body request came
    else answered_at_once board session body request came

-- the session ends so
abbrev pub ended : Board → ℕ → SessionEnd → Turned
ended board session end = record {
  board = record board {
    seats = slice_set board.seats session (record (seat_at board session) {
      transcript = Some (record (transcript_at board session) { end = Some end });
    });
  };
  text = end_line session (Some end);
}
