-- How the one-thread broker scans its list of waiting requests: every answerable one is answered, in session order.
use Rattle.std.specs.Prelude.{ℕ, ◌-◌, ◌||◌, Bool, not, List, [], ◌∷◌, ◌++◌, length, map, filter, nat_le, slice_set, ◌==◌, if◌then◌else◌, Option, Some, None}
use Rattle.std.specs.List.{find, range_with_len}
use Rattle.partlog.specs.declared.clock_event.ClockEvent.{ClockEvent}
use Rattle.partlog.specs.declared.clock_event.ClockEvent.TheVariants as clocks
use Rattle.partlog.specs.History.{History}
use Rattle.partlog.specs.Looked.{looked}
use Rattle.partlog.specs.Moment.{moment_of}
use Rattle.partlog.specs.State.{PartState as State, state_of}
use Rattle.audit.specs.declared.account.Call.{Call}
use Rattle.audit.specs.declared.account.CallHow.{CallHow}
use Rattle.audit.specs.declared.account.CallHow.TheVariants.{Satisfied, Expired}
use Rattle.audit.specs.declared.account.Point.{Point}
use Rattle.kanswer.specs.Answer.{answer}
use Rattle.kanswer.specs.Waiting.{Shown, values_of}
use Rattle.audit.specs.LawfulCall.{Step, operation_parts, part_in}
use Rattle.audit.specs.Histories.{clock_part, no_state}
use Rattle.opcond.specs.Tally.{tally}
use Rattle.trace_file.specs.PrintedLine.{reply_line}
use Rattle.audit.specs.broker.Board.{Board, Waiting, history_at, most_sessions, seat_at, transcript_at, next_call}
use Rattle.audit.specs.broker.Turns.{Turned}

-- the present state of a partition of an operation
abbrev pub present : List History → Option ℕ → State
present parts None = no_state
present parts (Some part) = state_of (history_at parts part)

abbrev pub shown_now : Board → List Step → List Shown
shown_now board steps = map (λ step. record { result = step.result; state = present board.parts (part_in step.result) }) steps

abbrev pub is_satisfied_now : Board → Waiting → Bool
is_satisfied_now board w =
    nat_le w.operation.least (tally w.operation.needs (values_of w.request.ask (shown_now board w.steps)))

abbrev pub is_overdue_now : Board → Waiting → Bool
is_overdue_now board w = nat_le w.operation.deadline (moment_of board.clock)

abbrev pub is_answerable_now : Board → Waiting → Bool
is_answerable_now board w = is_satisfied_now board w || is_overdue_now board w

-- a look at each of these partitions, in order
abbrev pub look_all : ℕ → ℕ → List ℕ → List History → List Point × List History
look_all by seq [] parts = ([], parts)
look_all by seq (part ∷ more) parts =
    let found = history_at parts part in
    let rest = look_all by seq more (slice_set parts part (looked found by seq)) in
    (record { part = part; place = length found.events } ∷ rest.0, rest.1)

-- the last call came to its end so
abbrev pub finish_last : List Point → CallHow → List Call → List Call
finish_last finish how [] = []
finish_last finish how (call ∷ []) = record call { finish = finish; how = how } ∷ []
finish_last finish how (call ∷ next ∷ calls) = call ∷ finish_last finish how (next ∷ calls)

abbrev pub last_call : Board → ℕ → ℕ
last_call board session = next_call board session - 1

-- the board once the last call of the waiting request's session was completed, and the request waits no more
abbrev pub completed_as : Board → Waiting → List ClockEvent → List Point → CallHow → List History → Board
completed_as board w clock finish how parts = record board {
  parts = parts;
  clock = clock;
  seats = slice_set board.seats w.session (record (seat_at board w.session) {
    transcript = Some (record (transcript_at board w.session) { calls = finish_last finish how (transcript_at board w.session).calls });
  });
  waiting = filter (λ other. not (other.session == w.session)) board.waiting;
}

-- an expired request looks at the clock first
abbrev pub completed : Board → Waiting → Turned
completed board w =
    let seq = last_call board w.session in
    let looks = look_all w.session seq (operation_parts w.steps) board.parts in
    let late = record { part = clock_part; place = length board.clock } ∷ looks.0 in
    record {
      board =
          if is_satisfied_now board w then completed_as board w board.clock looks.0 (Satisfied 0) looks.1
          else completed_as board w (board.clock ++ clocks.Look w.session seq ∷ []) late (Expired 0) looks.1;
      text = reply_line w.session (answer board.config w.request (shown_now board w.steps));
    }

abbrev pub unless_none : Board → Option Waiting → Turned
unless_none board None = record { board = board; text = [] }
unless_none board (Some w) = if is_answerable_now board w then completed board w else record { board = board; text = [] }

-- the request of a session, where one waits and is answerable
abbrev pub answered_in : Board → ℕ → Turned
answered_in board session = unless_none board (find (λ w. w.session == session) board.waiting)

abbrev pub scan_sessions : List ℕ → Board → Turned
scan_sessions [] board = record { board = board; text = [] }
scan_sessions (session ∷ sessions) board =
    let here = answered_in board session in
    let rest = scan_sessions sessions here.board in
    record { board = rest.board; text = here.text ++ rest.text }

abbrev pub scanned : Board → Turned
scanned board = scan_sessions (range_with_len 0 most_sessions) board
