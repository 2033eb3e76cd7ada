-- Every configuration and list of lines plays to something, where what its sessions receive are bytes.
use Rattle.std.proofs.Common.{◌≡◌, ◌⊎◌, ℕ, zero, suc, ◌-◌, ◌≤◌, ◌<◌, Bool, true, false, cond, List, [], ◌∷◌, ◌++◌, length, drop, Option, Some, None, MatchBool, refl, subst, arith, inl, inr, eq-eqb}
use Rattle.std.specs.Prelude.{nat_lt, ◌==◌}
use Rattle.std.specs.List.{AllZip}
use Rattle.hex.proofs.HexLemmas.{decode_of-ok}
use Rattle.kbytes.specs.Octets.{IsBytes}
use Rattle.kbytes.proofs.Laws.{IsBytes-take, IsBytes-drop}
use Rattle.partlog.specs.Moment.{moment_of}
use Rattle.audit.specs.declared.account.Account.{Account}
use Rattle.audit.specs.declared.account.SessionEnd.TheVariants.{Refused}
use Rattle.kwire.specs.declared.frame.Frame.{Frame}
use Rattle.kwire.specs.declared.frame.Frame.TheVariants.{Whole, NotYet, TooLong}
use Rattle.kwire.specs.declared.frame.WireFault.{WireFault}
use Rattle.kwire.specs.declared.request.Request.{Request}
use Rattle.trace_file.specs.declared.line.Line.{Line}
use Rattle.trace_file.specs.declared.line.Line.TheVariants.{Topic, Feed, Shut, Clock, End}
use Rattle.audit.specs.broker.Acting.{is_there, next_to_act, Acts, ActsOn, HandlesFrame}
use Rattle.audit.specs.broker.Board.{Board, seat_at, transcript_at, next_call, opening, account_of}
use Rattle.audit.specs.broker.Completing.{scanned}
use Rattle.kwire.specs.Configuration.{Configuration}
use Rattle.kwire.specs.Frames.{next_frame_of}
use Rattle.audit.specs.broker.Turns.{Turned, handled, ended}
use Rattle.audit.specs.broker.Play.{brought, Rests, Plays, IsPlay}
use Rattle.audit.specs.Printed.{summary_of}
use Rattle.kwire.specs.IsRequest.{IsRequest}
use Rattle.kwire.specs.Refusal.{IsRefused}
use Rattle.trace_file.specs.Contents.{bytes_in, input_of}
use Rattle.trace_file.specs.IsLine.{IsLine}
use Rattle.trace_file.specs.Trace.{pieces_of, IsTrace}
use Rattle.audit.proofs.broker.Cases.{either_way}
use Rattle.kanswer.proofs.Laws.{ask_decided, request_bytes, none_are_bytes, front_bytes, back_bytes, both_bytes}
use Rattle.kwire.proofs.Laws.{request_or_refusal}
use Rattle.audit.proofs.broker.Work.{AreSeats, work_on, seats_set, inbox_bytes, opening_seats, scanned_as_much, scanned_seats, acts_less, acts_seats, its_turn}
use Rattle.audit.specs.declared.account.TheConstants.{MOST_CALLS}

-- ---- what is done

frame_acts : (board : Board) (session : ℕ) (body : List ℕ) → IsBytes body → (turned : Turned) × HandlesFrame board session body turned
frame_acts board session body fits = by_reading (request_or_refusal body fits)
  where
    by_reading : ((request : Request) × IsRequest body request) ⊎ ((why : WireFault) × IsRefused body why) → (turned : Turned) × HandlesFrame board session body turned
    by_reading (inl known) =
        let d = ask_decided board.config known.0.ask (request_bytes body known.0 fits known.1) in
        (handled board session body known.0 d.0, inl (known.0, d.0, known.1, d.1, refl))
    by_reading (inr known) = (ended board session (Refused known.0), inr (known.0, known.1, refl))

whole_acts : (full : Bool) (board : Board) (session : ℕ) (body : List ℕ) (last : Turned) → IsBytes body → (turned : Turned) × MatchBool full (turned ≡ last) (HandlesFrame board session body turned)
whole_acts true board session body last fits = (last, refl)
whole_acts false board session body last fits = frame_acts board session body fits

on_frame : (board : Board) (session : ℕ) (frame : Frame) → IsBytes (seat_at board session).inbox → (turned : Turned) × ActsOn board session frame turned
on_frame board session (Whole end) fits =
    let inbox = (seat_at board session).inbox in
    whole_acts (next_call board session == MOST_CALLS) board session _ _ (IsBytes-take (end - 4) (drop 4 inbox) (IsBytes-drop 4 inbox fits))
on_frame board session NotYet fits = (_, refl)
on_frame board session (TooLong size) fits = (_, refl)

-- ---- at rest

-- a board comes to rest, and its seats are still such
abbrev ComesToRest : Board → Type 0
ComesToRest board = (acts : ℕ) × (turned : Turned) × Rests acts board turned × AreSeats turned.board.seats

-- one act, and what comes after it
rests_on : (board : Board) (session k : ℕ) (act rest : Turned) → next_to_act (scanned board).board ≡ Some session → Acts (scanned board).board session act → Rests k act.board rest
    → Rests (suc k) board (record { board = rest.board; text = (scanned board).text ++ (act.text ++ rest.text) })
rests_on board session k act rest is acts rests = (session, act, rest, is, acts, rests, λ i. record { board = rest.board; text = (scanned board).text ++ (act.text ++ rest.text) })

rests_by : (board : Board) → AreSeats board.seats → (next : Option ℕ) → next_to_act (scanned board).board ≡ next
    → ((later : Board) → AreSeats later.seats → work_on later.seats < work_on board.seats → ComesToRest later) → ComesToRest board
rests_by board are None is on = (0, scanned board, (is, refl), scanned_seats board are)
rests_by board are (Some session) is on =
    let here = (scanned board).board in
    let still = scanned_seats board are in
    let act = on_frame here session (next_frame_of (seat_at here session).inbox) (inbox_bytes here session still) in
    let turn = its_turn here session is in
    let less = acts_less here session act.0 still.count turn act.1 in
    let rest = on act.0.board (acts_seats here session act.0 still turn act.1) (omega (arith, less, (scanned_as_much board).work)) in
    (suc rest.0, _, rests_on board session rest.0 act.0 rest.1 is act.1 rest.2, rest.3)

rests : (least : ℕ) (board : Board) → AreSeats board.seats → work_on board.seats ≤ least → ComesToRest board
rests zero board are le = rests_by board are (next_to_act (scanned board).board) refl (λ later seats less. absurd (omega (arith, less, le)))
rests (suc least) board are le = rests_by board are (next_to_act (scanned board).board) refl (λ later seats less. rests least later seats (omega (arith, less, le)))

-- ---- the lines

-- what the first line brings are bytes
pub line_bytes : (line : Line) (lines : List Line) → ((session : ℕ) → IsBytes (input_of session (line ∷ lines))) → (s : ℕ) (bytes : List ℕ) → line ≡ Feed s bytes → IsBytes bytes
line_bytes line lines fits s bytes is =
    let here : IsBytes (input_of s (Feed s bytes ∷ lines)) = subst (λ (l : Line). IsBytes (input_of s (l ∷ lines))) is (fits s) in
    front_bytes bytes (input_of s lines) (rw (eq-eqb s) at here)

pub brought_seats : (board : Board) (line : Line) → AreSeats board.seats → ((s : ℕ) (bytes : List ℕ) → line ≡ Feed s bytes → IsBytes bytes) → AreSeats (brought board line).seats
brought_seats board (Topic name partitions followers least) are fits = are
brought_seats board (Feed session bytes) are fits =
    let inbox = (seat_at board session).inbox in
    seats_set board.seats session _ are (either_way IsBytes (is_there (transcript_at board session).end) inbox (inbox ++ bytes) (inbox_bytes board session are) (both_bytes inbox bytes (inbox_bytes board session are) (fits session bytes refl)))
brought_seats board (Shut session) are fits = seats_set board.seats session _ are (inbox_bytes board session are)
brought_seats board (Clock t) are fits = either_way (λ (x : Board). AreSeats x.seats) (nat_lt (moment_of board.clock) t) _ board are are
brought_seats board End are fits = are

plays : (board : Board) (lines : List Line) → AreSeats board.seats → ((session : ℕ) → IsBytes (input_of session lines)) → (turned : Turned) × Plays board lines turned
plays board [] are fits = (_, refl)
plays board (line ∷ lines) are fits =
    let start = brought board line in
    let here = rests (work_on start.seats) start (brought_seats board line are (line_bytes line lines fits)) (omega arith) in
    let rest = plays here.1.board lines here.3 (λ session. back_bytes _ (input_of session lines) (fits session)) in
    (record { board = rest.0.board; text = here.1.text ++ rest.0.text }, (here.1, rest.0, (here.0, here.2), rest.1, refl))

-- an account and a text to which the lines play
pub lines_play : (config : Configuration) (lines : List Line) → ((session : ℕ) → IsBytes (input_of session lines)) → (account : Account) × (text : List ℕ) × IsPlay config lines account text
lines_play config lines fits =
    let all = plays (opening config) lines opening_seats fits in
    let account = account_of all.0.board in
    (account, all.0.text ++ summary_of account, record { last = all.0; played = all.1; accounted = refl; printed = refl })

-- ---- the lines of a trace

bytes_or_none : (b : Bool) (bytes : List ℕ) → IsBytes bytes → IsBytes (cond b bytes [])
bytes_or_none true bytes fits = fits
bytes_or_none false bytes fits = none_are_bytes

spelled_bytes : (session : ℕ) (piece : List ℕ) (line : Line) → IsLine piece line → IsBytes (bytes_in session line)
spelled_bytes session piece (Topic name partitions followers least) is = none_are_bytes
spelled_bytes session piece (Feed s bytes) is = bytes_or_none (s == session) bytes (decode_of-ok is.hex bytes is.digits).3
spelled_bytes session piece (Shut s) is = none_are_bytes
spelled_bytes session piece (Clock t) is = none_are_bytes
spelled_bytes session piece End is = none_are_bytes

pub input_bytes : (pieces : List (List ℕ)) (lines : List Line) → AllZip IsLine pieces lines → (session : ℕ) → IsBytes (input_of session lines)
input_bytes [] [] are session = none_are_bytes
input_bytes [] (line ∷ lines) are session = absurd are
input_bytes (piece ∷ pieces) [] are session = absurd are
input_bytes (piece ∷ pieces) (line ∷ lines) are session =
    both_bytes (bytes_in session line) (input_of session lines) (spelled_bytes session piece line are.0) (input_bytes pieces lines are.1 session)

-- those of any trace play to something
pub trace_plays : (config : Configuration) (text : List ℕ) (lines : List Line) → IsTrace text lines → (account : Account) × (more : List ℕ) × IsPlay config lines account more
trace_plays config text lines trace = lines_play config lines (input_bytes (pieces_of text) lines trace.spelled)
