-- How much is left to do on a board: for each session that hasn't ended, one and the bytes that nobody has handled yet. A scan
-- leaves as much, and each act leaves less. Nothing here asks that what a session received are bytes: that they are is shown apart.
use Rattle.std.proofs.Common.{◌≡◌, ℕ, zero, suc, ◌+◌, ◌<◌, ◌≤◌, Bool, true, false, cond, not, ◌&&◌, List, [], ◌∷◌, length, map, set, drop, replicate, Option, Some, None, unwrap_or, MatchBool, refl, sym, ap, subst, ◌∙◌, arith, inl, inr}
use Rattle.std.proofs.lemmas.List.{length-set, length-drop, length-map, length-replicate}
use Rattle.std.specs.Prelude.{slice_get, ◌==◌}
use Rattle.std.specs.List.{AllByRecursion, find, list_any, range_with_len}
use Rattle.kbytes.specs.Octets.{IsBytes}
use Rattle.kbytes.proofs.Laws.{IsBytes-drop}
use Rattle.partlog.specs.History.{History}
use Rattle.partlog.specs.Moment.{moment_of}
use Rattle.audit.specs.declared.account.Call.{Call}
use Rattle.audit.specs.declared.account.SessionEnd.{SessionEnd}
use Rattle.audit.specs.declared.account.Transcript.{Transcript}
use Rattle.kwire.specs.declared.frame.Frame.{Frame}
use Rattle.kwire.specs.declared.frame.Frame.TheVariants.{Whole, NotYet, TooLong}
use Rattle.kwire.specs.declared.request.Request.{Request}
use Rattle.audit.specs.broker.Entering.{Noted, accept_all, shown_of}
use Rattle.kanswer.specs.Decisions.{Decision}
use Rattle.audit.specs.broker.Acting.{has_ended, is_there, can_act, next_to_act, shows_work, HandlesFrame, ActsOn, Acts}
use Rattle.audit.specs.broker.Board.{Board, Seat, Waiting, empty_seat, new_transcript, seat_at, transcript_at, next_call}
use Rattle.audit.specs.broker.Completing.{is_satisfied_now, is_answerable_now, completed, unless_none, answered_in, scan_sessions, scanned}
use Rattle.kanswer.specs.Waiting.{becomes_delayed}
use Rattle.kwire.specs.Frames.{next_frame_of}
use Rattle.audit.specs.broker.Turns.{Turned, seat_with, answered_at_once, left_waiting, handled, ended}
use Rattle.kwire.proofs.Laws.{whole_ends, whole_within}
use Rattle.kbytes.proofs.Laws.{some_is}
use Rattle.audit.proofs.broker.Cases.{either_way}
use Rattle.kanswer.proofs.Laws.{none_are_bytes}
use Rattle.audit.specs.declared.account.TheConstants.{MOST_CALLS}

-- ---- the measure

abbrev pub work_of : Seat → ℕ
work_of seat = cond (has_ended seat.transcript) 0 (suc (length seat.inbox))

abbrev pub work_on : List Seat → ℕ
work_on [] = 0
work_on (seat ∷ seats) = work_of seat + work_on seats

abbrev seat_in : List Seat → ℕ → Seat
seat_in seats session = unwrap_or (slice_get seats session) empty_seat

same_work : (seats : List Seat) (session : ℕ) (seat : Seat) → work_of seat ≡ work_of (seat_in seats session) → work_on (set seats session seat) ≡ work_on seats
same_work [] session seat e = refl
same_work (s ∷ seats) zero seat e = ap (λ (n : ℕ). n + work_on seats) e
same_work (s ∷ seats) (suc session) seat e = ap (λ (n : ℕ). work_of s + n) (same_work seats session seat e)

less_work : (seats : List Seat) (session : ℕ) (seat : Seat) → session < length seats → work_of seat < work_of (seat_in seats session) → work_on (set seats session seat) < work_on seats
less_work [] session seat there less = absurd (omega (arith, there))
less_work (s ∷ seats) zero seat there less = omega (arith, less)
less_work (s ∷ seats) (suc session) seat there less = omega (arith, less_work seats session seat (omega (arith, there)) less)

-- ---- seats

abbrev HasByteInbox : Seat → Type 0
HasByteInbox seat = IsBytes seat.inbox

-- the seats of 64 sessions, which received bytes
pub record AreSeats (seats : List Seat) : Type 0 where
  pub count : length seats ≡ 64
  pub bytes : AllByRecursion HasByteInbox seats

all_set : (seats : List Seat) (session : ℕ) (seat : Seat) → AllByRecursion HasByteInbox seats → HasByteInbox seat → AllByRecursion HasByteInbox (set seats session seat)
all_set [] session seat all here = tt
all_set (s ∷ seats) zero seat all here = (here, all.1)
all_set (s ∷ seats) (suc session) seat all here = (all.0, all_set seats session seat all.1 here)

all_at : (seats : List Seat) (session : ℕ) → AllByRecursion HasByteInbox seats → HasByteInbox (seat_in seats session)
all_at [] session all = none_are_bytes
all_at (s ∷ seats) zero all = all.0
all_at (s ∷ seats) (suc session) all = all_at seats session all.1

pub seats_set : (seats : List Seat) (session : ℕ) (seat : Seat) → AreSeats seats → IsBytes seat.inbox → AreSeats (set seats session seat)
seats_set seats session seat are here = record { count = length-set seats session seat ∙ are.count; bytes = all_set seats session seat are.bytes here }

pub inbox_bytes : (board : Board) (session : ℕ) → AreSeats board.seats → IsBytes (seat_at board session).inbox
inbox_bytes board session are = all_at board.seats session are.bytes

abbrev inboxes_of : List Seat → List (List ℕ)
inboxes_of seats = map (λ seat. seat.inbox) seats

all_to_inboxes : (seats : List Seat) → AllByRecursion HasByteInbox seats → AllByRecursion IsBytes (inboxes_of seats)
all_to_inboxes [] all = tt
all_to_inboxes (s ∷ seats) all = (all.0, all_to_inboxes seats all.1)

all_from_inboxes : (seats : List Seat) → AllByRecursion IsBytes (inboxes_of seats) → AllByRecursion HasByteInbox seats
all_from_inboxes [] all = tt
all_from_inboxes (s ∷ seats) all = (all.0, all_from_inboxes seats all.1)

-- the seats have the same inboxes
seats_alike : (seats later : List Seat) → inboxes_of later ≡ inboxes_of seats → AreSeats seats → AreSeats later
seats_alike seats later same are = record {
  count = sym (length-map later (λ (seat : Seat). seat.inbox)) ∙ ap length same ∙ length-map seats (λ (seat : Seat). seat.inbox) ∙ are.count;
  bytes = all_from_inboxes later (subst (AllByRecursion IsBytes) (sym same) (all_to_inboxes seats are.bytes));
}

empty_seats : (n : ℕ) → AllByRecursion HasByteInbox (replicate n empty_seat)
empty_seats zero = tt
empty_seats (suc n) = (none_are_bytes, empty_seats n)

pub opening_seats : AreSeats (replicate 64 empty_seat)
opening_seats = record { count = length-replicate 64 empty_seat; bytes = empty_seats 64 }

-- ---- scans

same_inboxes : (seats : List Seat) (session : ℕ) (seat : Seat) → seat.inbox ≡ (seat_in seats session).inbox → inboxes_of (set seats session seat) ≡ inboxes_of seats
same_inboxes [] session seat e = refl
same_inboxes (s ∷ seats) zero seat e = ap (λ (inbox : List ℕ). inbox ∷ inboxes_of seats) e
same_inboxes (s ∷ seats) (suc session) seat e = ap (λ (inboxes : List (List ℕ)). s.inbox ∷ inboxes) (same_inboxes seats session seat e)

over_is : (transcript : Option Transcript) (session : ℕ) → is_there (unwrap_or transcript (new_transcript session)).end ≡ has_ended transcript
over_is None session = refl
over_is (Some transcript) session = refl

-- as much is left, and no inbox changed
pub record IsAsMuch (board later : Board) : Type 0 where
  pub inboxes : inboxes_of later.seats ≡ inboxes_of board.seats
  pub work : work_on later.seats ≡ work_on board.seats

as_before : (board : Board) → IsAsMuch board board
as_before board = record { inboxes = refl; work = refl }

as_then : (a b c : Board) → IsAsMuch a b → IsAsMuch b c → IsAsMuch a c
as_then a b c one two = record { inboxes = two.inboxes ∙ one.inboxes; work = two.work ∙ one.work }

-- the calls of a session become others
abbrev recalled : Board → ℕ → List Call → Seat
recalled board session calls = record (seat_at board session) { transcript = Some (record (transcript_at board session) { calls = calls }) }

calls_changed : (board later : Board) (session : ℕ) (calls : List Call) → later.seats ≡ set board.seats session (recalled board session calls) → IsAsMuch board later
calls_changed board later session calls is =
    let seat = seat_at board session in
    let same : work_of (recalled board session calls) ≡ work_of seat = ap (λ (b : Bool). cond b 0 (suc (length seat.inbox))) (over_is seat.transcript session) in
    record {
      inboxes = ap inboxes_of is ∙ same_inboxes board.seats session (recalled board session calls) refl;
      work = ap work_on is ∙ same_work board.seats session (recalled board session calls) same;
    }

completed_as_much : (board : Board) (w : Waiting) → IsAsMuch board (completed board w).board
completed_as_much board w = either_way (IsAsMuch board) (is_satisfied_now board w) _ _ (calls_changed board _ w.session _ refl) (calls_changed board _ w.session _ refl)

unless_as_much : (board : Board) (o : Option Waiting) → IsAsMuch board (unless_none board o).board
unless_as_much board None = as_before board
unless_as_much board (Some w) =
    either_way (λ (x : Turned). IsAsMuch board x.board) (is_answerable_now board w) (completed board w) (record { board = board; text = [] }) (completed_as_much board w) (as_before board)

scan_as_much : (sessions : List ℕ) (board : Board) → IsAsMuch board (scan_sessions sessions board).board
scan_as_much [] board = as_before board
scan_as_much (session ∷ sessions) board =
    let here = (answered_in board session).board in
    as_then board here (scan_sessions sessions here).board (unless_as_much board (find (λ (w : Waiting). w.session == session) board.waiting)) (scan_as_much sessions here)

pub scanned_as_much : (board : Board) → IsAsMuch board (scanned board).board
scanned_as_much board = scan_as_much (range_with_len 0 64) board

pub scanned_seats : (board : Board) → AreSeats board.seats → AreSeats (scanned board).board.seats
scanned_seats board are = seats_alike board.seats (scanned board).board.seats (scanned_as_much board).inboxes are

-- ---- acts

-- a session that can act is one of the 64, hasn't ended, no request of it waits, and it has something to do
pub record IsOpen (board : Board) (session : ℕ) : Type 0 where
  pub there : session < 64
  pub goes_on : is_there (transcript_at board session).end ≡ false
  pub no_wait : list_any (λ w. w.session == session) board.waiting ≡ false
  pub shows : shows_work (seat_at board session).is_shut (next_frame_of (seat_at board session).inbox) ≡ true

pub open_work : (board : Board) (session : ℕ) → IsOpen board session → work_of (seat_at board session) ≡ suc (length (seat_at board session).inbox)
open_work board session h =
    let seat = seat_at board session in
    ap (λ (b : Bool). cond b 0 (suc (length seat.inbox))) (sym (over_is seat.transcript session) ∙ h.goes_on)

-- the seat of the session changed: the front of its inbox was taken, and it leaves less work
record IsActed (board : Board) (session : ℕ) (later : Board) : Type 0 where
  pub seat : Seat
  pub seats : later.seats ≡ set board.seats session seat
  pub taken : ℕ
  pub inbox : seat.inbox ≡ drop taken (seat_at board session).inbox
  pub work : work_of seat < suc (length (seat_at board session).inbox)

module _ (board : Board) (session : ℕ) (goes_on : is_there (transcript_at board session).end ≡ false) where
  abbrev Acted : Turned → Type 0
  Acted turned = IsActed board session turned.board

  ended_acts : (end : SessionEnd) → Acted (ended board session end)
  ended_acts end = record { seat = _; seats = refl; taken = 0; inbox = refl; work = omega arith }

  called_acts : (later : Board) (body : List ℕ) (call : Call) → 4 + length body ≤ length (seat_at board session).inbox → later.seats ≡ set board.seats session (seat_with board session body call)
      → IsActed board session later
  called_acts later body call within is =
      let inbox = (seat_at board session).inbox in
      let rest = drop (4 + length body) inbox in
      let left : work_of (seat_with board session body call) ≡ suc (length rest) = ap (λ (b : Bool). cond b 0 (suc (length rest))) goes_on in
      record { seat = seat_with board session body call; seats = is; taken = 4 + length body; inbox = refl; work = omega (arith, left, length-drop (4 + length body) inbox, within) }

  handled_acts : (body : List ℕ) (request : Request) (decisions : List Decision) → 4 + length body ≤ length (seat_at board session).inbox → Acted (handled board session body request decisions)
  handled_acts body request decisions within =
      let came = accept_all session (next_call board session) (moment_of board.clock) decisions board.parts in
      either_way Acted (becomes_delayed request.ask (shown_of came.0)) (left_waiting board session body request came) (answered_at_once board session body request came)
      (called_acts (left_waiting board session body request came).board body _ within refl) (called_acts (answered_at_once board session body request came).board body _ within refl)

  frame_acts : (body : List ℕ) (turned : Turned) → 4 + length body ≤ length (seat_at board session).inbox → HandlesFrame board session body turned → Acted turned
  frame_acts body turned within handles =
      elim handles [
        | inl took ↦ subst Acted (sym took.4) (handled_acts body took.0 took.1 within)
        | inr refused ↦ subst Acted (sym refused.2) (ended_acts _)
      ]

  whole_acts : (full : Bool) (body : List ℕ) (end : SessionEnd) (turned : Turned) → 4 + length body ≤ length (seat_at board session).inbox
      → MatchBool full (turned ≡ ended board session end) (HandlesFrame board session body turned) → Acted turned
  whole_acts true body end turned within is = subst Acted (sym is) (ended_acts end)
  whole_acts false body end turned within handles = frame_acts body turned within handles

  acts_by : (frame : Frame) (turned : Turned) → next_frame_of (seat_at board session).inbox ≡ frame → ActsOn board session frame turned → Acted turned
  acts_by (Whole end) turned is acts =
      let inbox = (seat_at board session).inbox in
      whole_acts (next_call board session == MOST_CALLS) _ _ turned (omega (arith, whole_ends inbox end is, whole_within inbox end is)) acts
  acts_by NotYet turned is acts = subst Acted (sym acts) (ended_acts _)
  acts_by (TooLong size) turned is acts = subst Acted (sym acts) (ended_acts _)

-- what a session does leaves less
pub acts_less : (board : Board) (session : ℕ) (turned : Turned) → length board.seats ≡ 64 → IsOpen board session → Acts board session turned → work_on turned.board.seats < work_on board.seats
acts_less board session turned count h acts =
    let a = acts_by board session h.goes_on (next_frame_of (seat_at board session).inbox) turned refl acts in
    let there : session < length board.seats = omega (arith, h.there, count) in
    let less_here : work_of a.seat < work_of (seat_at board session) = subst (λ (n : ℕ). work_of a.seat < n) (sym (open_work board session h)) a.work in
    subst (λ (seats : List Seat). work_on seats < work_on board.seats) (sym a.seats) (less_work board.seats session a.seat there less_here)

-- and its inbox still has bytes
pub acts_seats : (board : Board) (session : ℕ) (turned : Turned) → AreSeats board.seats → IsOpen board session → Acts board session turned → AreSeats turned.board.seats
acts_seats board session turned are h acts =
    let a = acts_by board session h.goes_on (next_frame_of (seat_at board session).inbox) turned refl acts in
    let fits : IsBytes a.seat.inbox = subst IsBytes (sym a.inbox) (IsBytes-drop a.taken (seat_at board session).inbox (inbox_bytes board session are)) in
    subst AreSeats (sym a.seats) (seats_set board.seats session a.seat are fits)

-- ---- whose turn it is

found_by : (p : ℕ → Bool) (a n session : ℕ) (b : Bool) → p a ≡ b → (find p (range_with_len (a + 1) n) ≡ Some session → (p session ≡ true) × (session < a + 1 + n))
    → cond b (Some a) (find p (range_with_len (a + 1) n)) ≡ Some session → (p session ≡ true) × (session < a + suc n)
found_by p a n session true test on is =
    let same : a ≡ session = some_is a session is in
    (subst (λ (s : ℕ). p s ≡ true) same test, omega (arith, same))
found_by p a n session false test on is = let later = on is in (later.0, omega (arith, later.1))

found_in : (p : ℕ → Bool) (a n session : ℕ) → find p (range_with_len a n) ≡ Some session → (p session ≡ true) × (session < a + n)
found_in p a zero session is = absurd cc
found_in p a (suc n) session is = found_by p a n session (p a) refl (λ e. found_in p (a + 1) n session e) is

open_from : (over waits shows : Bool) → (not over && (not waits && shows)) ≡ true → (over ≡ false) × (waits ≡ false) × (shows ≡ true)
open_from true waits shows is = absurd cc
open_from false true shows is = absurd cc
open_from false false shows is = (refl, refl, is)

pub its_turn : (board : Board) (session : ℕ) → next_to_act board ≡ Some session → IsOpen board session
its_turn board session is =
    let found = found_in (can_act board) 0 64 session is in
    let open_ = open_from (is_there (transcript_at board session).end) (list_any (λ w. w.session == session) board.waiting) (shows_work (seat_at board session).is_shut (next_frame_of (seat_at board session).inbox)) found.0 in
    record { there = omega (arith, found.1); goes_on = open_.0; no_wait = open_.1; shows = open_.2 }
