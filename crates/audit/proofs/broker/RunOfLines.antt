-- The account of a play of a trace is that of the run of its lines.
use Rattle.std.proofs.Common.{◌≡◌, ◌≢◌, ℕ, zero, suc, ◌+◌, ◌-◌, ◌≤◌, ◌<◌, ◌⊎◌, Bool, true, false, ◌||◌, not, ◌&&◌, cond, List, [], ◌∷◌, ◌++◌, length, get_or, take, drop, Option, Some, None, unwrap_or, MatchBool, refl, sym, ap, subst, ◌∙◌, arith, inl, inr, append-nil, append_assoc, length-append, add-zero}
use Rattle.std.proofs.lemmas.Bool.{cases_Bool, cases_lt, eqb-true, ne_eqb, or_right}
use Rattle.std.proofs.lemmas.List.{drop_all, get_or-append-add}
use Rattle.std.proofs.lemmas.List.Folds.{list_any-append}
use Rattle.std.proofs.lemmas.List.Sums.{sum_by-append, sum_by-cons}
use Rattle.std.proofs.lemmas.Grind.{flat_map-append}
use Rattle.std.proofs.lemmas.Option.{slice_get_past}
use Rattle.std.specs.Prelude.{slice_get, option_to_list, ◌==◌}
use Rattle.std.specs.List.{AllByRecursion, AllPairs, find, flat_map, list_any, range_with_len}
use Rattle.kbytes.specs.Octets.{IsBytes}
use Rattle.partlog.specs.declared.clock_event.ClockEvent.TheVariants as clocks
use Rattle.partlog.specs.Moment.{moment_of}
use Rattle.audit.specs.declared.account.Account.{Account}
use Rattle.audit.specs.declared.account.Transcript.{Transcript}
use Rattle.audit.specs.declared.account.Call.{Call}
use Rattle.audit.specs.declared.account.Point.{Point}
use Rattle.audit.specs.declared.account.CallHow.TheVariants.{Satisfied, Expired, Parked}
use Rattle.audit.specs.declared.account.SessionEnd.{SessionEnd}
use Rattle.audit.specs.declared.account.SessionEnd.TheVariants.{Closed, Truncated, FrameTooLong, Refused, CallsFull, ReadFault, WriteFault, NoMemory}
use Rattle.audit.specs.declared.account.TheConstants.{MOST_CALLS}
use Rattle.audit.specs.Fits.{EndFits, IsUnfinished, LastIsParked}
use Rattle.audit.specs.Histories.{all_calls, clock_part, ticks_of}
use Rattle.audit.specs.LawfulCall.{operation_parts, step_points}
use Rattle.audit.specs.RunOf.{IsTraceEnd, IsNotCut, IsSessionOf, IsRunOf}
use Rattle.kbytes.proofs.Laws.{same_or_not, get_there}
use Rattle.kanswer.specs.Decisions.{Decision}
use Rattle.kanswer.specs.Waiting.{becomes_delayed}
use Rattle.kwire.specs.declared.config.Topic as topics
use Rattle.kwire.specs.declared.frame.Frame.{Frame}
use Rattle.kwire.specs.declared.frame.Frame.TheVariants.{Whole, NotYet, TooLong}
use Rattle.kwire.specs.declared.request.Request.{Request}
use Rattle.kwire.specs.Configuration.{partitions_of}
use Rattle.kwire.specs.Frames.{next_frame_of, framed, IsFrameBody}
use Rattle.kwire.proofs.Laws.{whole_parts}
use Rattle.trace_file.specs.declared.line.Line.{Line}
use Rattle.trace_file.specs.declared.line.Line.TheVariants.{Topic, Feed, Shut, Clock, End}
use Rattle.trace_file.specs.Contents.{configuration_of, topic_in, bytes_in, names, shuts, input_of, is_named, is_shut, sessions_of, rising_from}
use Rattle.trace_file.specs.IsInOrder.{MayFollow, AreNewTopics}
use Rattle.trace_file.specs.Trace.{pieces_of, IsTrace}
use Rattle.trace_file.proofs.Laws.{few_sessions}
use Rattle.audit.specs.broker.Acting.{is_there, shows_work, can_act, HandlesFrame, Acts, ActsOn}
use Rattle.audit.specs.broker.Board.{Board, Seat, Waiting, empty_seat, new_transcript, seat_at, transcript_at, next_call, put_before, passes_of, opening, account_of}
use Rattle.audit.specs.broker.Completing.{look_all, last_call, is_satisfied_now, is_answerable_now, completed_as, completed, unless_none, answered_in, scan_sessions, scanned}
use Rattle.kwire.specs.DeclaredTopics.{IsDeclared, AreDeclared}
use Rattle.audit.specs.broker.Entering.{accept_all, steps_of, shown_of}
use Rattle.audit.specs.broker.Play.{brought, Rests, Plays, IsPlay}
use Rattle.audit.specs.broker.Turns.{Turned, how_at_once, answered_at_once, left_waiting, handled, ended}
use Rattle.audit.proofs.broker.Cases.{either_way}
use Rattle.audit.proofs.broker.Acts.{ticks_looked}
use Rattle.audit.proofs.broker.Boards.{IsSound, Stand, waiting_of, nothing_last, waits_last, waits_there}
use Rattle.audit.proofs.broker.Calls.{IsOver}
use Rattle.audit.proofs.broker.FedLines.{IsFedBy, IsFedSeat, IsInputEnd, IsRest, MayCome, seat_named_is, seat_unnamed, named_below, last_named, fed_opening, fed_line, fed_call, fed_ended, fed_finished, ticks_alike, known_named, works_named}
use Rattle.audit.proofs.broker.Growth.{looked_moment}
use Rattle.audit.proofs.broker.Lawful.{IsUncut, all_uncut, passes_get}
use Rattle.audit.proofs.broker.LineByLine.{plays_keep}
use Rattle.audit.proofs.broker.PlaySome.{brought_seats, input_bytes, line_bytes}
use Rattle.audit.proofs.broker.Playing.{brought_sound, answered_sound, scanned_sound, acts_sound, waits_own}
use Rattle.kanswer.proofs.Laws.{back_bytes}
use Rattle.audit.proofs.broker.Resting.{IsSettled, opening_settled, plays_settled}
use Rattle.audit.proofs.broker.Work.{AreSeats, IsOpen, acts_seats, inbox_bytes, its_turn, opening_seats, scanned_seats}

-- ---- the passes

put_last : (ts : List Transcript) (ps : List (List Transcript)) (s : ℕ) → length (put_before ts ps) ≡ suc s → ((s ≡ 0) × (ts ≢ [])) ⊎ ((k : ℕ) × (s ≡ suc k) × (length ps ≡ suc k))
put_last [] [] s e = absurd (omega (arith, e))
put_last [] (p ∷ ps) s e = inr (length ps, omega (arith, e), omega arith)
put_last (t ∷ ts) [] s e = inl (omega (arith, e), λ f. absurd cc)
put_last (t ∷ ts) (p ∷ ps) s e = inr (length ps, omega (arith, e), omega arith)

-- the last pass has a transcript
last_there : (seats : List Seat) (s : ℕ) → length (passes_of seats) ≡ suc s → (unwrap_or (slice_get seats s) empty_seat).transcript ≡ None → ⊥
last_there [] s e none = omega (arith, e)
last_there (seat ∷ seats) zero e none =
    elim (put_last (option_to_list seat.transcript) (passes_of seats) 0 e) [
      | inl first ↦ first.1 (ap option_to_list none)
      | inr later ↦ omega (arith, later.1)
    ]
last_there (seat ∷ seats) (suc s) e none =
    elim (put_last (option_to_list seat.transcript) (passes_of seats) (suc s) e) [
      | inl first ↦ omega (arith, first.0)
      | inr later ↦ last_there seats s (later.2 ∙ sym later.1) none
    ]

-- a transcript that is there has its pass
pass_there : (seats : List Seat) (s : ℕ) (t : Transcript) → (unwrap_or (slice_get seats s) empty_seat).transcript ≡ Some t → s < length (passes_of seats)
pass_there seats s t e =
    elim (cases_le (length (passes_of seats)) s) [
      | inl past ↦
          let none : [] ≡ t ∷ [] = sym (ap (λ (o : Option (List Transcript)). unwrap_or o []) (slice_get_past (passes_of seats) s past)) ∙ passes_get seats s ∙ ap option_to_list e in
          absurd cc
      | inr within ↦ within
    ]
  where
    cases_le : (a b : ℕ) → (a ≤ b) ⊎ (b < a)
    cases_le zero b = inl (omega arith)
    cases_le (suc a) zero = inr (omega arith)
    cases_le (suc a) (suc b) = elim (cases_le a b) [ inl le ↦ inl (omega (arith, le)) | inr lt ↦ inr (omega (arith, lt)) ]

seat_past : (seats : List Seat) (s : ℕ) → length seats ≤ s → (unwrap_or (slice_get seats s) empty_seat).transcript ≡ None
seat_past seats s past = ap (λ (o : Option Seat). (unwrap_or o empty_seat).transcript) (slice_get_past seats s past)

same_count : (a b : ℕ) → ((k : ℕ) → a ≡ suc k → k < b) → ((k : ℕ) → b ≡ suc k → k < a) → a ≡ b
same_count zero zero f g = refl
same_count zero (suc b) f g = absurd (omega (arith, g b refl))
same_count (suc a) zero f g = absurd (omega (arith, f a refl))
same_count (suc a) (suc b) f g = omega (arith, f a refl, g b refl)

last_is_named : (fed : List Line) (board : Board) (k : ℕ) → IsFedBy fed board → length (passes_of board.seats) ≡ suc k → is_named k fed ≡ true
last_is_named fed board k h e =
    elim (cases_lt k 64) [
      | inl lt ↦ elim (cases_Bool (is_named k fed)) [
        | inl found ↦ found
        | inr missing ↦ absurd (last_there board.seats k e (seat_unnamed k (input_of k fed) (is_shut k fed) (is_named k fed) (seat_at board k) missing (h.seats k lt)))
      ]
      | inr past ↦ absurd (last_there board.seats k e (seat_past board.seats k (omega (arith, past, h.size))))
    ]

passes_count : (fed : List Line) (board : Board) → IsFedBy fed board → length (passes_of board.seats) ≡ sessions_of fed
passes_count fed board h = same_count (length (passes_of board.seats)) (sessions_of fed)
    (λ k e. named_below k fed (last_is_named fed board k h e))
    (λ k e.
    let named = last_named k fed e in
    let t = seat_named_is k (input_of k fed) (is_shut k fed) (is_named k fed) (seat_at board k) named (h.seats k (h.few k named)) in
    pass_there board.seats k t.0 t.1)

pass_is : (board : Board) (s : ℕ) (o : Option Transcript) → s < length (passes_of board.seats) → (seat_at board s).transcript ≡ o → slice_get (passes_of board.seats) s ≡ Some (option_to_list o)
pass_is board s o lt e = get_there (passes_of board.seats) s [] lt ∙ ap Some (passes_get board.seats s ∙ ap option_to_list e)

-- ---- what is done keeps what was fed

completed_fed : (fed : List Line) (board : Board) (w : Waiting) → IsSound board → IsFedBy fed board → waiting_of board.waiting w.session ≡ Some w → IsFedBy fed (completed board w).board
completed_fed fed board w sound h own =
    let s = w.session in
    let seq = last_call board s in
    let last = waits_last board s w sound own in
    let lt : s < 64 = waits_there board s w sound own in
    let found : is_named s fed ≡ true =
    known_named fed board s h lt (λ none.
    nothing_last last.front last.call (sym (ap (λ (o : Option Transcript). (unwrap_or o (new_transcript s)).calls) none) ∙ last.calls)) in
    let looked = ticks_alike fed board.clock (board.clock ++ clocks.Look s seq ∷ []) (ticks_looked board.clock s seq) (looked_moment board.clock s seq) h.ticks in
    let looks = look_all s seq (operation_parts w.steps) board.parts in
    let late : List Point = record { part = clock_part; place = length board.clock } ∷ looks.0 in
    let at_once = completed_as board w board.clock looks.0 (Satisfied 0) looks.1 in
    let too_late = completed_as board w (board.clock ++ clocks.Look s seq ∷ []) late (Expired 0) looks.1 in
    either_way (IsFedBy fed) (is_satisfied_now board w) at_once too_late
    (fed_finished fed board at_once s h lt h.ticks found looks.0 (Satisfied 0) refl last.going)
    (fed_finished fed board too_late s h lt looked found late (Expired 0) refl last.going)

unless_fed : (fed : List Line) (board : Board) (s : ℕ) (o : Option Waiting) → waiting_of board.waiting s ≡ o → IsSound board → IsFedBy fed board → IsFedBy fed (unless_none board o).board
unless_fed fed board s None e sound h = h
unless_fed fed board s (Some w) e sound h = by_test (is_answerable_now board w)
  where
    by_test : (b : Bool) → IsFedBy fed (cond b (completed board w) (record { board = board; text = [] })).board
    by_test true = completed_fed fed board w sound h (waits_own board s w e)
    by_test false = h

scan_fed : (fed : List Line) (sessions : List ℕ) (board : Board) → IsSound board → IsFedBy fed board → IsFedBy fed (scan_sessions sessions board).board
scan_fed fed [] board sound h = h
scan_fed fed (s ∷ sessions) board sound h =
    scan_fed fed sessions (answered_in board s).board (answered_sound board s sound) (unless_fed fed board s (waiting_of board.waiting s) refl sound h)

scanned_fed : (fed : List Line) (board : Board) → IsSound board → IsFedBy fed board → IsFedBy fed (scanned board).board
scanned_fed fed board sound h = scan_fed fed (range_with_len 0 64) board sound h

shows_none : (shut : Bool) (frame : Frame) (rest : List ℕ) → next_frame_of rest ≡ frame → shows_work shut frame ≡ false → IsUnfinished rest × (shut ≡ false)
shows_none shut (Whole end) rest is e = absurd cc
shows_none shut NotYet rest is e = (record { not_whole = λ w. absurd (cc (is, w.1)); not_too_long = λ w. absurd (cc (is, w.1)) }, e)
shows_none shut (TooLong size) rest is e = absurd cc

unfinished : (rest : List ℕ) → next_frame_of rest ≡ NotYet → IsUnfinished rest
unfinished rest is = record { not_whole = λ w. absurd (cc (is, w.1)); not_too_long = λ w. absurd (cc (is, w.1)) }

-- one session acts
module _ (fed : List Line) (board : Board) (s : ℕ) (h : IsFedBy fed board) (seats : AreSeats board.seats) (o : IsOpen board s) where
  abbrev inbox : List ℕ
  inbox = (seat_at board s).inbox

  abbrev t : Transcript
  t = transcript_at board s

  found : is_named s fed ≡ true
  found = works_named fed board s h o.there o.goes_on o.shows

  ends_fed : (end : SessionEnd) → EndFits inbox (is_shut s fed) (record t { end = Some end }) (Some end) → IsInputEnd end → IsFedBy fed (ended board s end).board
  ends_fed end fits input = fed_ended fed board (ended board s end).board s h o.there h.ticks found end refl o.goes_on fits input

  calls_fed : (body : List ℕ) (request : Request) (decisions : List Decision) → IsFrameBody body → inbox ≡ framed body ++ drop (4 + length body) inbox → IsFedBy fed (handled board s body request decisions).board
  calls_fed body request decisions small front =
      let came = accept_all s (next_call board s) (moment_of board.clock) decisions board.parts in
      let seq = next_call board s in
      let looked = ticks_alike fed board.clock (board.clock ++ clocks.Look s seq ∷ []) (ticks_looked board.clock s seq) (looked_moment board.clock s seq) h.ticks in
      let done : Call = record { frame = body; accept = step_points (steps_of came.0); finish = []; how = how_at_once request.ask } in
      let waits : Call = record { frame = body; accept = step_points (steps_of came.0) ++ record { part = clock_part; place = length board.clock } ∷ []; finish = []; how = Parked } in
      either_way (λ (x : Turned). IsFedBy fed x.board) (becomes_delayed request.ask (shown_of came.0)) (left_waiting board s body request came) (answered_at_once board s body request came)
      (fed_call fed board (left_waiting board s body request came).board s h o.there looked found body waits refl o.goes_on small refl front)
      (fed_call fed board (answered_at_once board s body request came).board s h o.there h.ticks found body done refl o.goes_on small refl front)

  frame_fed : (body : List ℕ) (turned : Turned) → IsFrameBody body → inbox ≡ framed body ++ drop (4 + length body) inbox → HandlesFrame board s body turned → IsFedBy fed turned.board
  frame_fed body turned small front (inl took) = subst (λ (x : Turned). IsFedBy fed x.board) (sym took.4) (calls_fed body took.0 took.1 small front)
  frame_fed body turned small front (inr refused) =
      subst (λ (x : Turned). IsFedBy fed x.board) (sym refused.2) (ends_fed (Refused refused.0) (body, drop (4 + length body) inbox, front, small, refused.1) tt)

  whole_fed : (full : Bool) (body : List ℕ) (end : ℕ) (turned : Turned) → (next_call board s == MOST_CALLS) ≡ full → next_frame_of inbox ≡ Whole end → IsFrameBody body → inbox ≡ framed body ++ drop (4 + length body) inbox
      → MatchBool full (turned ≡ ended board s CallsFull) (HandlesFrame board s body turned) → IsFedBy fed turned.board
  whole_fed true body end turned full is small front e =
      subst (λ (x : Turned). IsFedBy fed x.board) (sym e) (ends_fed CallsFull ((end, is), eqb-true (next_call board s) MOST_CALLS full) tt)
  whole_fed false body end turned full is small front handles = frame_fed body turned small front handles

  at_end : (b : Bool) → (length inbox == 0) ≡ b → next_frame_of inbox ≡ NotYet → is_shut s fed ≡ true → IsFedBy fed (ended board s (cond b Closed (Truncated (length inbox)))).board
  at_end true none is shut = ends_fed Closed (shut, nothing inbox (eqb-true (length inbox) 0 none)) tt
    where
      nothing : (xs : List ℕ) → length xs ≡ 0 → xs ≡ []
      nothing [] e = refl
      nothing (x ∷ xs) e = absurd (omega (arith, e))
  at_end false some is shut = ends_fed (Truncated (length inbox)) (shut, refl, positive (length inbox) some, unfinished inbox is) tt
    where
      positive : (n : ℕ) → (n == 0) ≡ false → 0 < n
      positive zero e = absurd cc
      positive (suc n) e = omega arith

  act_fed : (frame : Frame) (turned : Turned) → next_frame_of inbox ≡ frame → shows_work (seat_at board s).is_shut frame ≡ true → ActsOn board s frame turned → IsFedBy fed turned.board
  act_fed (Whole end) turned is shows acts =
      let parts = whole_parts inbox end (inbox_bytes board s seats) is in
      whole_fed (next_call board s == MOST_CALLS) (take (end - 4) (drop 4 inbox)) end turned refl is parts.small (parts.parts ∙ ap (λ (n : ℕ). framed (take (end - 4) (drop 4 inbox)) ++ drop n inbox) parts.ends) acts
  act_fed NotYet turned is shows acts =
      subst (λ (x : Turned). IsFedBy fed x.board) (sym acts) (at_end (length inbox == 0) refl is (sym (h.seats s o.there).is_shut ∙ shows))
  act_fed (TooLong size) turned is shows acts = subst (λ (x : Turned). IsFedBy fed x.board) (sym acts) (ends_fed (FrameTooLong size) is tt)

  pub acts_fed : (turned : Turned) → Acts board s turned → IsFedBy fed turned.board
  acts_fed turned acts = act_fed (next_frame_of inbox) turned refl o.shows acts

-- until it is at rest
record IsFedOn (fed : List Line) (board : Board) : Type 0 where
  sound : IsSound board
  seats : AreSeats board.seats
  fed_by : IsFedBy fed board

rests_fed : (fed : List Line) (acts : ℕ) (board : Board) (turned : Turned) → IsFedOn fed board → Rests acts board turned → IsFedOn fed turned.board
rests_fed fed zero board turned h rests =
    subst (λ (x : Turned). IsFedOn fed x.board) (sym rests.1)
    (record { sound = scanned_sound board h.sound; seats = scanned_seats board h.seats; fed_by = scanned_fed fed board h.sound h.fed_by })
rests_fed fed (suc acts) board turned h rests =
    let here = (scanned board).board in
    let sound = scanned_sound board h.sound in
    let seats = scanned_seats board h.seats in
    let turn = its_turn here rests.0 rests.3 in
    let acted : IsFedOn fed rests.1.board = record {
      sound = acts_sound here rests.0 rests.1 sound turn rests.4;
      seats = acts_seats here rests.0 rests.1 seats turn rests.4;
      fed_by = acts_fed fed here rests.0 (scanned_fed fed board h.sound h.fed_by) seats turn rests.1 rests.4;
    } in
    subst (λ (x : Turned). IsFedOn fed x.board) (sym rests.6) (rests_fed fed acts rests.1.board rests.2 acted rests.5)

-- ---- the lines of a trace

abbrev AllMayCome : List Line → List Line → Type 0
AllMayCome fed [] = Unit {0}
AllMayCome fed (line ∷ lines) = MayCome fed line × ((s : ℕ) (bytes : List ℕ) → line ≡ Feed s bytes → IsBytes bytes) × AllMayCome (fed ++ line ∷ []) lines

plays_fed : (fed lines : List Line) (board : Board) (turned : Turned) → IsFedOn fed board → AllMayCome fed lines → Plays board lines turned → IsFedOn (fed ++ lines) turned.board
plays_fed fed [] board turned h may played =
    subst (λ (x : Turned). IsFedOn (fed ++ []) x.board) (sym played) (subst (λ (ls : List Line). IsFedOn ls board) (sym (append-nil fed)) h)
plays_fed fed (line ∷ lines) board turned h may played =
    let start : IsFedOn (fed ++ line ∷ []) (brought board line) = record {
      sound = brought_sound board line h.sound;
      seats = brought_seats board line h.seats may.1;
      fed_by = fed_line fed board line h.fed_by may.0;
    } in
    let here = rests_fed (fed ++ line ∷ []) played.2.0 (brought board line) played.0 start played.2.1 in
    let rest = plays_fed (fed ++ line ∷ []) lines played.0.board played.1 here may.2 played.3 in
    subst (λ (x : Turned). IsFedOn (fed ++ line ∷ lines) x.board) (sym played.4) (subst (λ (ls : List Line). IsFedOn ls played.1.board) (append_assoc fed (line ∷ []) lines) rest)

-- a session that was named before isn't closed already
shuts_no : (s : ℕ) (earlier line : Line) → MayFollow earlier line → names s line ≡ true → shuts s earlier ≡ false
shuts_no s (Topic name partitions followers least) line follows named = refl
shuts_no s (Feed session bytes) line follows named = refl
shuts_no s (Shut session) line follows named =
    elim (same_or_not session s) [
      | inl same ↦ absurd (follows.closed_once s (ap Shut same) named)
      | inr other ↦ ne_eqb session s other
    ]
shuts_no s (Clock t) line follows named = refl
shuts_no s End line follows named = refl

not_closed : (s : ℕ) (fed later : List Line) (line : Line) → AllPairs MayFollow (fed ++ line ∷ later) → names s line ≡ true → is_shut s fed ≡ false
not_closed s [] later line pairs found = refl
not_closed s (first ∷ fed) later line pairs found =
    let place : get_or (fed ++ line ∷ later) (length fed) line ≡ line = ap (λ (i : ℕ). get_or (fed ++ line ∷ later) i line) (sym (add-zero (length fed))) ∙ get_or-append-add fed (line ∷ later) 0 line in
    let here : MayFollow first line = subst (MayFollow first) place (pairs 0 (suc (length fed)) line (omega arith) (omega (arith, length-append fed (line ∷ later)))) in
    let rest = not_closed s fed later line (λ i j d lt within. pairs (suc i) (suc j) d (omega (arith, lt)) (omega (arith, within))) found in
    ap (λ (b : Bool). b || is_shut s fed) (shuts_no s first line here found) ∙ rest

named_in : (s : ℕ) (fed later : List Line) (line : Line) → names s line ≡ true → is_named s (fed ++ line ∷ later) ≡ true
named_in s fed later line found =
    list_any-append (names s) fed (line ∷ later) ∙ or_right (is_named s fed) (names s line || is_named s later) (ap (λ (b : Bool). b || is_named s later) found)

trace_may_come : (text : List ℕ) (fed lines : List Line) → IsTrace text (fed ++ lines) → AllMayCome fed lines
trace_may_come text fed [] trace = tt
trace_may_come text fed (line ∷ lines) trace = (
  record { named = λ s found. (few_sessions text (fed ++ line ∷ lines) s trace (named_in s fed lines line found), not_closed s fed lines line trace.order.pairs found) },
  line_bytes line lines (λ s. back_bytes (input_of s fed) (input_of s (line ∷ lines))
      (subst IsBytes (flat_map-append (bytes_in s) fed (line ∷ lines)) (input_bytes (pieces_of text) (fed ++ line ∷ lines) trace.spelled s))),
  trace_may_come text (fed ++ line ∷ []) lines (subst (IsTrace text) (sym (append_assoc fed (line ∷ []) lines)) trace),
)

-- ---- its topics

topics_more : (ts more : List topics.Topic) → partitions_of (ts ++ more) ≡ partitions_of ts + partitions_of more
topics_more ts more = sum_by-append (λ t. t.partitions) ts more

one_more : (ts : List topics.Topic) (line : Line) → partitions_of ts ≤ 64 → ((name : List ℕ) (partitions followers least : ℕ) → line ≡ Topic name partitions followers least → partitions_of ts + partitions ≤ 64)
    → partitions_of (ts ++ flat_map topic_in (line ∷ [])) ≤ 64
one_more ts (Topic name partitions followers least) few new =
    let topic : topics.Topic = record { name = name; partitions = partitions; followers = followers; min_insync = least } in
    omega (arith, new name partitions followers least refl, topics_more ts (topic ∷ []), sum_by-cons (λ (t : topics.Topic). t.partitions) topic [])
one_more ts (Feed session bytes) few new = omega (arith, few, topics_more ts [])
one_more ts (Shut session) few new = omega (arith, few, topics_more ts [])
one_more ts (Clock t) few new = omega (arith, few, topics_more ts [])
one_more ts End few new = omega (arith, few, topics_more ts [])

few_behind : (lines front back : List Line) → AreNewTopics lines → lines ≡ front ++ back → partitions_of (flat_map topic_in front) ≤ 64 → partitions_of (flat_map topic_in lines) ≤ 64
few_behind lines front [] new parts few = subst (λ (ls : List Line). partitions_of (flat_map topic_in ls) ≤ 64) (sym (parts ∙ append-nil front)) few
few_behind lines front (line ∷ back) new parts few =
    let here = one_more (flat_map topic_in front) line few (λ name partitions followers least is. (new front back name partitions followers least (parts ∙ ap (λ (l : Line). front ++ l ∷ back) is)).few) in
    few_behind lines (front ++ line ∷ []) back new (parts ∙ sym (append_assoc front (line ∷ []) back))
    (subst (λ (ts : List topics.Topic). partitions_of ts ≤ 64) (sym (flat_map-append topic_in front (line ∷ []))) here)

declared_behind : (lines front back : List Line) → AreNewTopics lines → lines ≡ front ++ back → AllByRecursion IsDeclared (flat_map topic_in back)
declared_behind lines front [] new parts = tt
declared_behind lines front (line ∷ back) new parts =
    by_line line parts (declared_behind lines (front ++ line ∷ []) back new (parts ∙ sym (append_assoc front (line ∷ []) back)))
  where
    by_line : (line : Line) → lines ≡ front ++ line ∷ back → AllByRecursion IsDeclared (flat_map topic_in back) → AllByRecursion IsDeclared (flat_map topic_in (line ∷ back))
    by_line (Topic name partitions followers least) is rest = let n = new front back name partitions followers least is in ((n.named.short, n.some, n.replicas, n.in_sync, n.enough), rest)
    by_line (Feed session bytes) is rest = rest
    by_line (Shut session) is rest = rest
    by_line (Clock t) is rest = rest
    by_line End is rest = rest

-- the topics of a trace are such as may be declared
pub trace_declared : (text : List ℕ) (lines : List Line) (port : ℕ) → IsTrace text lines → AreDeclared (configuration_of port lines).topics
trace_declared text lines port trace = record {
  each = declared_behind lines [] lines trace.order.topics refl;
  few = few_behind lines [] lines trace.order.topics refl (omega arith);
}

-- ---- at rest

parked_last : (front : List Call) (call : Call) → call.how ≡ Parked → LastIsParked (front ++ call ∷ [])
parked_last [] call parked = parked
parked_last (x ∷ []) call parked = parked
parked_last (x ∷ y ∷ front) call parked = parked_last (y ∷ front) call parked

none_found : (p : ℕ → Bool) (a n s : ℕ) → find p (range_with_len a n) ≡ None → a ≤ s → s < a + n → p s ≡ false
none_found p a zero s none le lt = absurd (omega (arith, le, lt))
none_found p a (suc n) s none le lt = by_test (p a) refl (λ rest above. none_found p (a + 1) n s rest above (omega (arith, lt))) none
  where
    by_test : (b : Bool) → p a ≡ b → (find p (range_with_len (a + 1) n) ≡ None → a + 1 ≤ s → p s ≡ false) → cond b (Some a) (find p (range_with_len (a + 1) n)) ≡ None → p s ≡ false
    by_test true is on e = absurd cc
    by_test false is on e = elim (same_or_not s a) [
      | inl same ↦ ap p same ∙ is
      | inr other ↦ on e (omega arith)
    ]

any_none : {X : Type 0} (p : X → Bool) (xs : List X) → find p xs ≡ None → list_any p xs ≡ false
any_none p [] none = refl
any_none {X = X} p (x ∷ xs) none = by_test (p x) (any_none p xs) none
  where
    by_test : (b : Bool) → (find p xs ≡ None → list_any p xs ≡ false) → cond b (Some x) (find p xs) ≡ None → (b || list_any p xs) ≡ false
    by_test true on e = absurd cc
    by_test false on e = on e

shows_from : (over waits shows : Bool) → (not over && (not waits && shows)) ≡ false → over ≡ false → waits ≡ false → shows ≡ false
shows_from true waits shows e going none = absurd cc
shows_from false true shows e going none = absurd cc
shows_from false false shows e going none = e

-- a session that goes on, of which nothing waits, has nothing whole in its inbox, and more may come
idle : (board : Board) (s : ℕ) → IsSettled board → s < 64 → waiting_of board.waiting s ≡ None → is_there (transcript_at board s).end ≡ false
    → IsUnfinished (seat_at board s).inbox × ((seat_at board s).is_shut ≡ false)
idle board s settled lt nobody going =
    let no : can_act board s ≡ false = none_found (can_act board) 0 64 s settled.idle (omega arith) (omega (arith, lt)) in
    let shows = shows_work (seat_at board s).is_shut (next_frame_of (seat_at board s).inbox) in
    let none : list_any (λ (w : Waiting). w.session == s) board.waiting ≡ false = any_none (λ (w : Waiting). w.session == s) board.waiting nobody in
    shows_none (seat_at board s).is_shut (next_frame_of (seat_at board s).inbox) (seat_at board s).inbox refl
    (shows_from (is_there (transcript_at board s).end) (list_any (λ (w : Waiting). w.session == s) board.waiting) shows no going none)

-- so its end fits what is left
end_fits : (fed : List Line) (board : Board) (s : ℕ) (rest : List ℕ) (end : Option SessionEnd) → IsSettled board → s < 64 → (seat_at board s).is_shut ≡ is_shut s fed → (transcript_at board s).end ≡ end
    → IsRest (seat_at board s).inbox (is_shut s fed) (transcript_at board s) rest end → EndFits rest (is_shut s fed) (transcript_at board s) end
end_fits fed board s rest (Some end) settled lt shut is fits = fits.0
end_fits fed board s rest None settled lt shut is same = by_waiting (waiting_of board.waiting s) refl (settled.sound.sound.sessions s).stand
  where
    by_waiting : (o : Option Waiting) → waiting_of board.waiting s ≡ o → Stand board.config board.parts board.clock s o (transcript_at board s)
        → LastIsParked (transcript_at board s).calls ⊎ (IsUnfinished rest × (is_shut s fed ≡ false))
    by_waiting (Some w) e stand = inl (subst LastIsParked (sym stand.calls) (parked_last stand.front stand.call stand.waits.how))
    by_waiting None e stand = let i = idle board s settled lt e (ap is_there is) in inr (subst IsUnfinished (sym same) i.0, sym shut ∙ i.1)

input_end : (end : SessionEnd) → IsInputEnd end → IsTraceEnd (Some end)
input_end Closed h = (λ f. absurd cc, λ f. absurd cc, λ f. absurd cc)
input_end (Truncated got) h = (λ f. absurd cc, λ f. absurd cc, λ f. absurd cc)
input_end (FrameTooLong size) h = (λ f. absurd cc, λ f. absurd cc, λ f. absurd cc)
input_end (Refused why) h = (λ f. absurd cc, λ f. absurd cc, λ f. absurd cc)
input_end CallsFull h = (λ f. absurd cc, λ f. absurd cc, λ f. absurd cc)
input_end ReadFault h = absurd h
input_end WriteFault h = absurd h
input_end NoMemory h = absurd h

trace_end : (inbox rest : List ℕ) (shut : Bool) (t : Transcript) (end : Option SessionEnd) → IsRest inbox shut t rest end → IsTraceEnd end
trace_end inbox rest shut t None same = (λ f. absurd cc, λ f. absurd cc, λ f. absurd cc)
trace_end inbox rest shut t (Some end) h = input_end end h.1

the_session : (fed : List Line) (board : Board) (s : ℕ) (t : Transcript) → IsSettled board → s < 64 → s < length (passes_of board.seats) → IsFedSeat s (input_of s fed) (is_shut s fed) true (seat_at board s)
    → (seat_at board s).transcript ≡ Some t → IsSessionOf fed (account_of board) s
the_session fed board s t settled small lt h e =
    let same : transcript_at board s ≡ t = ap (λ (o : Option Transcript). unwrap_or o (new_transcript s)) e in record {
      transcript = transcript_at board s;
      alone = pass_is board s (Some t) lt e ∙ ap (λ (x : Transcript). Some (x ∷ [])) (sym same);
      number = (settled.sound.sound.sessions s).number;
      fits = record {
        rest = h.rest;
        frames = h.parts;
        each = h.each;
        end = end_fits fed board s h.rest (transcript_at board s).end settled small h.is_shut refl h.ends;
      };
      end = trace_end (seat_at board s).inbox h.rest (is_shut s fed) (transcript_at board s) (transcript_at board s).end h.ends;
    }

some_session : (fed : List Line) (board : Board) (s : ℕ) (named : Bool) → IsSettled board → s < 64 → s < length (passes_of board.seats)
    → IsFedSeat s (input_of s fed) (is_shut s fed) named (seat_at board s) → MatchBool named (IsSessionOf fed (account_of board) s) (slice_get (account_of board).passes s ≡ Some [])
some_session fed board s true settled small lt h = the_session fed board s h.there.0 settled small lt h h.there.1
some_session fed board s false settled small lt h = pass_is board s None lt h.there

uncut : (call : Call) → IsUncut call → IsNotCut call
uncut call (inl over) won e = subst IsOver e over
uncut call (inr parked) won e = absurd (cc (parked, e))

none_cut : (calls : List Call) → AllByRecursion IsUncut calls → AllByRecursion IsNotCut calls
none_cut [] all = tt
none_cut (call ∷ calls) all = (uncut call all.0, none_cut calls all.1)

sessions_few : (fed : List Line) (n : ℕ) → ((s : ℕ) → is_named s fed ≡ true → s < n) → sessions_of fed ≤ n
sessions_few fed n few = by_count (sessions_of fed) refl
  where
    by_count : (k : ℕ) → sessions_of fed ≡ k → k ≤ n
    by_count zero e = omega arith
    by_count (suc k) e = omega (arith, few k (last_named k fed e))

-- the account of a board at rest is that of the run of the lines that it was fed
fed_run : (fed : List Line) (port : ℕ) (board : Board) → IsFedBy fed board → IsSettled board → board.config ≡ configuration_of port fed → IsRunOf fed port [] [] (account_of board)
fed_run fed port board h settled config = record {
  config = config;
  passes = omega (arith, passes_count fed board h);
  behind = drop_all (sessions_of fed) (account_of board).passes (omega (arith, passes_count fed board h));
  sessions = λ s lt.
      let small : s < 64 = omega (arith, lt, sessions_few fed 64 h.few) in
      some_session fed board s (is_named s fed) settled small (omega (arith, lt, passes_count fed board h)) (h.seats s small);
  whole = none_cut (all_calls (account_of board)) (all_uncut board settled.sound);
  ticks = sym (append-nil (ticks_of board.clock)) ∙ h.ticks [] ∙ ap (rising_from 0) (append-nil fed) ∙ sym (append-nil (rising_from 0 fed));
}

pub play_is_run : (text : List ℕ) (lines : List Line) (port : ℕ) (account : Account) (printed : List ℕ) → IsTrace text lines → IsPlay (configuration_of port lines) lines account printed
    → IsRunOf lines port [] [] account
play_is_run text lines port account printed trace play =
    let config = configuration_of port lines in
    let declared = trace_declared text lines port trace in
    let first = opening_settled config declared in
    let fed = plays_fed [] lines (opening config) play.last (record { sound = first.sound; seats = opening_seats; fed_by = fed_opening config }) (trace_may_come text [] lines trace) play.played in
    let settled = plays_settled (opening config) lines play.last first play.played in
    subst (IsRunOf lines port [] []) (sym play.accounted) (fed_run lines port play.last.board fed.fed_by settled (plays_keep (opening config) lines play.last play.played))
