-- A request that was handled: it was answered at once, or waits from now on.
use Rattle.std.proofs.Common.{◌≡◌, ◌≢◌, ℕ, ◌+◌, ◌<◌, ℤ, eqb, Bool, true, false, cond, List, [], ◌∷◌, ◌++◌, length, drop, map, Option, Some, None, MatchBool, refl, sym, ap, subst, ◌∙◌, inl, inr, append-nil, eq-eqb}
use Rattle.std.proofs.lemmas.Bool.{ne_eqb}
use Rattle.partlog.specs.declared.clock_event.ClockEvent.{ClockEvent}
use Rattle.partlog.specs.History.{History}
use Rattle.partlog.specs.Moment.{moment_of}
use Rattle.kwire.specs.Configuration.{partitions_of}
use Rattle.kwire.specs.Frames.{next_frame_of}
use Rattle.kwire.specs.IsRequest.{IsRequest}
use Rattle.kwire.specs.Refusal.{IsRefused}
use Rattle.kwire.specs.declared.frame.Frame.TheVariants.{Whole, NotYet, TooLong}
use Rattle.kwire.specs.declared.frame.WireFault.{WireFault}
use Rattle.kwire.specs.declared.request.Request.{Request}
use Rattle.kwire.proofs.Laws.{whole_ends}
use Rattle.kanswer.specs.Decisions.{Decision, Decides}
use Rattle.kanswer.specs.Results.{AreResults}
use Rattle.kanswer.specs.Waiting.{becomes_delayed, operation_of, results_of}
use Rattle.kanswer.specs.declared.accepted.Accepted.{Accepted}
use Rattle.audit.specs.Histories.{clock_part}
use Rattle.audit.specs.LawfulCall.{Step, step_points}
use Rattle.audit.specs.declared.account.Call.{Call}
use Rattle.audit.specs.declared.account.CallHow.{CallHow}
use Rattle.audit.specs.declared.account.CallHow.TheVariants.{Parked as Waits}
use Rattle.audit.specs.declared.account.Point.{Point}
use Rattle.audit.specs.declared.account.SessionEnd.{SessionEnd}
use Rattle.audit.specs.declared.account.SessionEnd.TheVariants.{CallsFull, FrameTooLong, Refused}
use Rattle.audit.specs.declared.account.TheConstants.{MOST_CALLS}
use Rattle.audit.specs.broker.Acting.{Acts, HandlesFrame, end_of_input}
use Rattle.audit.specs.broker.Board.{Board, Seat, Waiting, next_call, seat_at, transcript_at}
use Rattle.audit.specs.broker.Entering.{Noted, accept_all, shown_of, steps_of}
use Rattle.audit.specs.broker.Turns.{Turned, answered_at_once, ended, handled, how_at_once, left_waiting, seat_with}
use Rattle.lone_broker.specs.Desks.{front_body, transcript_of}
use Rattle.lone_broker.specs.Handled.{IsAnswered, IsHandled, IsParked, looked_by}
use Rattle.lone_broker.specs.Kept.{AreKept, IsKeptOf, Kept, MatchesWaiting, StandsFor, TurnsBy, last_frame, parked_at, waiting_in, with_waiting}
use Rattle.lone_broker.specs.declared.handling.Handled.{Handled}
use Rattle.lone_broker.specs.declared.parked.Parked.{Parked}
use Rattle.lone_broker.proofs.Followers.{accepted_followers, parts_size}
use Rattle.lone_broker.proofs.ResultsStand.{results_logs}
use Rattle.lone_broker.proofs.Standing.{are_moved, by_waiting, moved, stands_of}
use Rattle.lone_broker.proofs.Waits.{waits_more, waits_others}

abbrev pub call_of : List ℕ → List Point → List Point → CallHow → Call
call_of frame accept finish how = record { frame = frame; accept = accept; finish = finish; how = how }

-- the frame at the front, which ends before this place, was handled as this call
abbrev pub noted : ℕ → ℕ → Call → Seat → Seat
noted session end call seat = record {
  inbox = drop end seat.inbox;
  is_shut = seat.is_shut;
  transcript = Some (record (transcript_of session seat) { calls = (transcript_of session seat).calls ++ call ∷ [] });
}

last_of : (calls : List Call) (call : Call) → last_frame (calls ++ call ∷ []) ≡ call.frame
last_of [] call = refl
last_of (first ∷ []) call = refl
last_of (first ∷ next ∷ calls) call = last_of (next ∷ calls) call

pub none_matches : (parts : ℕ) (frame other : List ℕ) (w : Option Waiting) → MatchesWaiting parts frame None w → MatchesWaiting parts other None w
none_matches parts frame other None m = tt
none_matches parts frame other (Some w) m = absurd m

pub idle_waits : (parts : ℕ) (frame : List ℕ) (o : Option Parked) (w : Option Waiting) → o ≡ None → MatchesWaiting parts frame o w → w ≡ None
idle_waits parts frame None None is m = refl
idle_waits parts frame None (Some w) is m = absurd m
idle_waits parts frame (Some p) w is m = absurd cc

results_shown : (ns : List Noted) → map (λ (step : Step). step.result) (steps_of ns) ≡ results_of (shown_of ns)
results_shown [] = refl
results_shown (n ∷ ns) = ap (λ (rs : List Accepted). n.step.result ∷ rs) (results_shown ns)

-- a session whose request at the front, which has this body and ends before this place, is handled
module _ (kept : Kept) (waiting : List Waiting) (are : AreKept kept waiting) (session end seq : ℕ) (there : session < 64) (idle : parked_at kept session ≡ None)
    (whole : next_frame_of (seat_at kept.board session).inbox ≡ Whole end) (counted : seq ≡ next_call kept.board session) (request : Request) (asked : IsRequest (front_body (seat_at kept.board session) end) request)
    (decisions : List Decision) (decided : Decides kept.board.config request.ask decisions) where
  abbrev board : Board
  board = with_waiting kept waiting

  abbrev body : List ℕ
  body = front_body (seat_at kept.board session) end

  abbrev came : List Noted × List History
  came = accept_all session (next_call kept.board session) (moment_of kept.board.clock) decisions kept.board.parts

  abbrev seated : Call → Seat
  seated call = seat_with board session body call

  long : end ≡ 4 + length body
  long = whole_ends (seat_at kept.board session).inbox end whole

  noted_is : (call : Call) → noted session end call (seat_at kept.board session) ≡ seated call
  noted_is call = ap (λ (n : ℕ). noted session n call (seat_at kept.board session)) long

  followers : map (λ (h : History). h.followers) came.1 ≡ map (λ (h : History). h.followers) kept.board.parts
  followers = accepted_followers session (next_call kept.board session) (moment_of kept.board.clock) decisions kept.board.parts

  -- it needn't wait
  abbrev the_call : Call
  the_call = call_of body (step_points (steps_of came.0)) [] (how_at_once request.ask)

  stands_answered : (call : Call) → call ≡ the_call → StandsFor (moved kept came.1 kept.board.clock session (noted session end call (seat_at kept.board session)) None) (answered_at_once board session body request came).board
  stands_answered call is =
      subst (λ (x : Seat). StandsFor (moved kept came.1 kept.board.clock session x None) (answered_at_once board session body request came).board) (sym (ap (λ (k : Call). noted session end k (seat_at kept.board session)) is ∙ noted_is the_call))
      (stands_of (moved kept came.1 kept.board.clock session (seated the_call) None) waiting
      (are_moved kept waiting waiting came.1 kept.board.clock session (seated the_call) None are there followers
      (none_matches (partitions_of kept.board.config.topics) (last_frame (transcript_at kept.board session).calls) (last_frame (transcript_of session (seated the_call)).calls) (waiting_in waiting session)
      (subst (λ (o : Option Parked). MatchesWaiting (partitions_of kept.board.config.topics) (last_frame (transcript_at kept.board session).calls) o (waiting_in waiting session)) idle (are.waits session)))
      (λ s other. refl)))

  -- it waits
  abbrev clock : List ClockEvent
  clock = looked_by session (next_call kept.board session) kept.board.clock

  abbrev waiting_call : Call
  waiting_call = call_of body (step_points (steps_of came.0) ++ record { part = clock_part; place = length kept.board.clock } ∷ []) [] Waits

  abbrev results : List Accepted
  results = results_of (shown_of came.0)

  abbrev slot : Parked
  slot = record { accepted = results; op = operation_of request.ask results (moment_of clock) }

  abbrev the_waiting : Waiting
  the_waiting = record { session = session; request = request; steps = steps_of came.0; operation = operation_of request.ask results (moment_of clock) }

  nobody : waiting_in waiting session ≡ None
  nobody = idle_waits (partitions_of kept.board.config.topics) (last_frame (transcript_at kept.board session).calls) (parked_at kept session) (waiting_in waiting session) idle (are.waits session)

  kept_of : AreResults request.ask results → (frame : List ℕ) → frame ≡ body → IsKeptOf (partitions_of kept.board.config.topics) frame slot the_waiting
  kept_of listed frame is = record {
    asked = subst (λ (b : List ℕ). IsRequest b request) (sym is) asked;
    results = results_shown came.0;
    operation = refl;
    moment = moment_of clock;
    made = refl;
    listed = listed;
    there = results_logs kept.board.config request body session (next_call kept.board session) (moment_of kept.board.clock) decisions kept.board.parts asked decided (parts_size kept.board.config.topics kept.board.parts are.followers);
  }

  stands_waiting : AreResults request.ask results → (call : Call) → call ≡ waiting_call
      → StandsFor (moved kept came.1 clock session (noted session end call (seat_at kept.board session)) (Some slot)) (left_waiting board session body request came).board
  stands_waiting listed call is =
      let later : List Waiting = waiting ++ the_waiting ∷ [] in
      subst (λ (x : Seat). StandsFor (moved kept came.1 clock session x (Some slot)) (left_waiting board session body request came).board) (sym (ap (λ (k : Call). noted session end k (seat_at kept.board session)) is ∙ noted_is waiting_call))
      (stands_of (moved kept came.1 clock session (seated waiting_call) (Some slot)) later
      (are_moved kept waiting later came.1 clock session (seated waiting_call) (Some slot) are there followers
      (subst (MatchesWaiting (partitions_of kept.board.config.topics) (last_frame (transcript_of session (seated waiting_call)).calls) (Some slot)) (sym (waits_more waiting the_waiting session refl nobody))
      (kept_of listed (last_frame (transcript_of session (seated waiting_call)).calls) (last_of (transcript_at kept.board session).calls waiting_call)))
      (λ s other. waits_others waiting the_waiting s other)))

  -- as it became
  abbrev Stands_as : Turned → List History → List ClockEvent → Handled → List ℕ → List ℕ → Type 0
  Stands_as t parts later done text more =
      StandsFor (moved kept parts later session (noted session end (call_of body done.accept [] done.how) (seat_at kept.board session)) done.parked) t.board × (more ≡ text ++ t.text)

  became : (b : Bool) (parts : List History) (later : List ClockEvent) (done : Handled) (text more : List ℕ) → parts ≡ came.1
      → MatchBool b (IsParked session (next_call kept.board session) request came.0 kept.board.clock later done text more) (IsAnswered kept.board.config session request came.0 kept.board.clock later done text more)
      → Stands_as (cond b (left_waiting board session body request came) (answered_at_once board session body request came)) parts later done text more
  became true parts later done text more is p =
      let t = left_waiting board session body request came in
      let K : List History → List ClockEvent → Option Parked → Kept = λ ps cs o. moved kept ps cs session (noted session end (call_of body done.accept [] done.how) (seat_at kept.board session)) o in
      let call : call_of body done.accept [] done.how ≡ waiting_call = ap (λ (ps : List Point). call_of body ps [] done.how) p.points ∙ ap (call_of body waiting_call.accept []) p.how in
      let some : done.parked ≡ Some slot = p.some ∙ ap (λ (cs : List ClockEvent). let made : Option Parked = Some (record { accepted = results; op = operation_of request.ask results (moment_of cs) }) in made) p.looked in
      let same : K parts later done.parked ≡ K came.1 clock (Some slot) = ap (λ (ps : List History). K ps later done.parked) is ∙ ap (λ (cs : List ClockEvent). K came.1 cs done.parked) p.looked ∙ ap (K came.1 clock) some in
      (subst (λ (k : Kept). StandsFor k t.board) (sym same) (stands_waiting p.listed (call_of body done.accept [] done.how) call), p.printed ∙ sym (nothing_more text))
    where
      nothing_more : (xs : List ℕ) → xs ++ [] ≡ xs
      nothing_more xs = append-nil xs
  became false parts later done text more is a =
      let t = answered_at_once board session body request came in
      let K : List History → List ClockEvent → Option Parked → Kept = λ ps cs o. moved kept ps cs session (noted session end (call_of body done.accept [] done.how) (seat_at kept.board session)) o in
      let call : call_of body done.accept [] done.how ≡ the_call = ap (λ (ps : List Point). call_of body ps [] done.how) a.points ∙ ap (call_of body the_call.accept []) a.how in
      let same : K parts later done.parked ≡ K came.1 kept.board.clock None = ap (λ (ps : List History). K ps later done.parked) is ∙ ap (λ (cs : List ClockEvent). K came.1 cs done.parked) a.still ∙ ap (K came.1 kept.board.clock) a.none in
      (subst (λ (k : Kept). StandsFor k t.board) (sym same) (stands_answered (call_of body done.accept [] done.how) call), a.printed)

-- ---- so a session acts

frame_acts : (board : Board) (session end : ℕ) (t : Turned) → next_frame_of (seat_at board session).inbox ≡ Whole end → next_call board session ≢ MOST_CALLS → HandlesFrame board session (front_body (seat_at board session) end) t → Acts board session t
frame_acts board session end t whole room handles =
    let no : eqb (next_call board session) MOST_CALLS ≡ false = ne_eqb (next_call board session) MOST_CALLS room in
    rw (whole, no) handles

pub handled_turns : (kept : Kept) (session end seq : ℕ) (request : Request) (parts : List History) (clock : List ClockEvent) (done : Handled) (text more : List ℕ) → session < 64 → parked_at kept session ≡ None
    → next_frame_of (seat_at kept.board session).inbox ≡ Whole end → seq ≡ next_call kept.board session → seq ≢ MOST_CALLS → IsRequest (front_body (seat_at kept.board session) end) request
    → IsHandled kept.board.config session seq request kept.board.parts parts kept.board.clock clock done text more
    → TurnsBy (λ board. Acts board session) kept (moved kept parts clock session (noted session end (call_of (front_body (seat_at kept.board session) end) done.accept [] done.how) (seat_at kept.board session)) done.parked) text more
handled_turns kept session end seq request parts clock done text more there idle whole counted room asked h0 =
    let next = moved kept parts clock session (noted session end (call_of (front_body (seat_at kept.board session) end) done.accept [] done.how) (seat_at kept.board session)) done.parked in
    let body = front_body (seat_at kept.board session) end in
    let h : IsHandled kept.board.config session (next_call kept.board session) request kept.board.parts parts kept.board.clock clock done text more =
    subst (λ (n : ℕ). IsHandled kept.board.config session n request kept.board.parts parts kept.board.clock clock done text more) counted h0 in
    by_waiting (λ board. (t : Turned) × Acts board session t × StandsFor next t.board × (more ≡ text ++ t.text)) kept (λ waiting are.
    let board = with_waiting kept waiting in
    let t = handled board session body request h.decisions in
    let did = became kept waiting are session end seq there idle whole counted request asked h.decisions h.decided
    (becomes_delayed request.ask (shown_of (accept_all session (next_call kept.board session) (moment_of kept.board.clock) h.decisions kept.board.parts).0)) parts clock done text more h.histories h.became in
    (t, frame_acts board session end t whole (λ e. room (counted ∙ e)) (inl (request, h.decisions, asked, h.decided, refl)), did.0, did.1))

-- where it ends, that is how it acts
pub ends_acting : (kept after : Kept) (session : ℕ) (end : SessionEnd) (text more : List ℕ) → ((waiting : List Waiting) → AreKept kept waiting → Acts (with_waiting kept waiting) session (ended (with_waiting kept waiting) session end))
    → TurnsBy (λ board t. t ≡ ended board session end) kept after text more → TurnsBy (λ board. Acts board session) kept after text more
ends_acting kept after session end text more acts turns board stands =
    let t = turns board stands in
    let acting : Acts board session (ended board session end) = by_waiting (λ b. Acts b session (ended b session end)) kept acts board stands in
    (t.0, subst (Acts board session) (sym t.1) acting, t.2, t.3)

pub full_acts : (kept : Kept) (waiting : List Waiting) (session end : ℕ) → next_frame_of (seat_at kept.board session).inbox ≡ Whole end → next_call kept.board session ≡ MOST_CALLS
    → Acts (with_waiting kept waiting) session (ended (with_waiting kept waiting) session CallsFull)
full_acts kept waiting session end whole full =
    let yes : eqb (next_call kept.board session) MOST_CALLS ≡ true = eq-eqb (next_call kept.board session) MOST_CALLS full in
    rw (whole, yes) refl

pub refused_acts : (kept : Kept) (waiting : List Waiting) (session end : ℕ) (why : WireFault) → next_frame_of (seat_at kept.board session).inbox ≡ Whole end → next_call kept.board session ≢ MOST_CALLS
    → IsRefused (front_body (seat_at kept.board session) end) why → Acts (with_waiting kept waiting) session (ended (with_waiting kept waiting) session (Refused why))
refused_acts kept waiting session end why whole room refused =
    frame_acts (with_waiting kept waiting) session end _ whole room (inr (why, refused, refl))

pub acts_at_end : (kept : Kept) (waiting : List Waiting) (session : ℕ) (end : SessionEnd) → next_frame_of (seat_at kept.board session).inbox ≡ NotYet → end ≡ end_of_input (length (seat_at kept.board session).inbox)
    → Acts (with_waiting kept waiting) session (ended (with_waiting kept waiting) session end)
acts_at_end kept waiting session end none is = rw none (ap (ended (with_waiting kept waiting) session) is)

pub acts_too_long : (kept : Kept) (waiting : List Waiting) (session : ℕ) (size told : ℤ) → next_frame_of (seat_at kept.board session).inbox ≡ TooLong size → told ≡ size
    → Acts (with_waiting kept waiting) session (ended (with_waiting kept waiting) session (FrameTooLong told))
acts_too_long kept waiting session size told long is = rw long (ap (λ (z : ℤ). ended (with_waiting kept waiting) session (FrameTooLong z)) is)
