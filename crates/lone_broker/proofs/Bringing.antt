-- What a session's line brings, and a session that ends.
use Rattle.std.proofs.Common.{◌≡◌, ℕ, ◌<◌, Bool, true, cond, List, ◌++◌, length, set, Option, Some, None, unwrap_or, refl, sym, subst, arith}
use Rattle.audit.specs.Printed.{end_line}
use Rattle.audit.specs.declared.account.SessionEnd.{SessionEnd}
use Rattle.audit.specs.declared.account.Transcript.{Transcript}
use Rattle.trace_file.specs.declared.line.Line.TheVariants.{Feed, Shut}
use Rattle.audit.specs.broker.Acting.{has_ended, is_there}
use Rattle.audit.specs.broker.Board.{Board, Seat, new_transcript, seat_at, transcript_at}
use Rattle.audit.specs.broker.Play.{brought}
use Rattle.audit.specs.broker.Turns.{Turned, ended}
use Rattle.lone_broker.specs.Desks.{transcript_of}
use Rattle.lone_broker.specs.Kept.{Kept, StandsFor, TurnsBy, with_waiting}
use Rattle.lone_broker.proofs.Standing.{are_reseated, by_waiting, reseated, stands_of}

abbrev pub fed_seat : ℕ → List ℕ → Seat → Seat
fed_seat session bytes seat = record {
  inbox = cond (has_ended seat.transcript) seat.inbox (seat.inbox ++ bytes);
  is_shut = seat.is_shut;
  transcript = Some (transcript_of session seat);
}

abbrev pub shut_seat : ℕ → Seat → Seat
shut_seat session seat = record { inbox = seat.inbox; is_shut = true; transcript = Some (transcript_of session seat) }

abbrev pub ended_seat : ℕ → SessionEnd → Seat → Seat
ended_seat session end seat =
    record { inbox = seat.inbox; is_shut = seat.is_shut; transcript = Some (record (transcript_of session seat) { end = Some end }) }

over_is : (transcript : Option Transcript) (session : ℕ) → is_there (unwrap_or transcript (new_transcript session)).end ≡ has_ended transcript
over_is None session = refl
over_is (Some transcript) session = refl

pub fed_stands : (kept : Kept) (session : ℕ) (bytes : List ℕ) → session < 64 → (board : Board) → StandsFor kept board
    → StandsFor (reseated kept session (fed_seat session bytes (seat_at kept.board session))) (brought board (Feed session bytes))
fed_stands kept session bytes there =
    let seat = seat_at kept.board session in
    let next = reseated kept session (fed_seat session bytes seat) in
    by_waiting (λ board. StandsFor next (brought board (Feed session bytes))) kept (λ waiting are.
    subst (λ (b : Bool). StandsFor next (record (with_waiting kept waiting) {
      seats = set kept.board.seats session (record {
        inbox = cond b seat.inbox (seat.inbox ++ bytes);
        is_shut = seat.is_shut;
        transcript = Some (transcript_at kept.board session);
      });
    })) (sym (over_is seat.transcript session))
    (stands_of next waiting (are_reseated kept waiting session (fed_seat session bytes seat) are there refl)))

pub shut_stands : (kept : Kept) (session : ℕ) → session < 64 → (board : Board) → StandsFor kept board
    → StandsFor (reseated kept session (shut_seat session (seat_at kept.board session))) (brought board (Shut session))
shut_stands kept session there =
    let seat = seat_at kept.board session in
    let next = reseated kept session (shut_seat session seat) in
    by_waiting (λ board. StandsFor next (brought board (Shut session))) kept (λ waiting are.
    stands_of next waiting (are_reseated kept waiting session (shut_seat session seat) are there refl))

pub ended_turns : (kept : Kept) (session : ℕ) (end : SessionEnd) (text more : List ℕ) → session < length kept.board.seats → more ≡ text ++ end_line session (Some end)
    → TurnsBy (λ board t. t ≡ ended board session end) kept (reseated kept session (ended_seat session end (seat_at kept.board session))) text more
ended_turns kept session end text more there told =
    let seat = seat_at kept.board session in
    let next = reseated kept session (ended_seat session end seat) in
    by_waiting (λ board. (t : Turned) × (t ≡ ended board session end) × StandsFor next t.board × (more ≡ text ++ t.text)) kept (λ waiting are. (
      ended (with_waiting kept waiting) session end,
      refl,
      stands_of next waiting (are_reseated kept waiting session (ended_seat session end seat) are (omega (arith, there, are.seats)) refl),
      told,
    ))
