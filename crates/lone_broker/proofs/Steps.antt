-- What a step of one session leaves as it was.
use Rattle.std.proofs.Common.{◌≡◌, ◌≢◌, ◌⊎◌, ℤ, pos, negsuc, ℕ, zero, suc, ◌+◌, ◌-◌, ◌<◌, ◌≤◌, ◌^◌, Bool, true, false, ◌&&◌, List, [], ◌∷◌, ◌++◌, length, map, set, Option, None, unwrap_or, MatchBool, refl, sym, ap, subst, ◌∙◌, arith, inl, inr}
use Rattle.std.proofs.lemmas.Bool.{ltb-true}
use Rattle.std.proofs.lemmas.List.{length-append}
use Rattle.std.specs.Prelude.{slice_get}
use Rattle.std.specs.Int.{w32}
use Rattle.std.specs.List.{AllByRecursion}
use mir.Val.{SFits}
use Rattle.kbytes.specs.FitsField.{FitsField}
use Rattle.kwire.proofs.Laws.{spelled_fits}
use Rattle.partlog.specs.declared.clock_event.ClockEvent.{ClockEvent}
use Rattle.partlog.specs.History.{History}
use Rattle.partlog.specs.Looked.{looked}
use Rattle.partlog.specs.Moment.{moment_of}
use Rattle.partlog.specs.State.{state_of}
use Rattle.opcond.specs.Tally.{tally}
use Rattle.opcond.specs.declared.need.Need.{Need}
use Rattle.kwire.specs.Configuration.{Configuration, partitions_of}
use Rattle.kwire.specs.IsRequest.{IsRequest, ask_fields}
use Rattle.kwire.specs.declared.request.Ask.{Ask}
use Rattle.kwire.specs.declared.request.Ask.TheVariants.{Produce, Fetch, Metadata, Versions}
use Rattle.kwire.specs.declared.request.Request.{Request}
use Rattle.kanswer.specs.Decisions.{AskLog, Decides, Decision, Refuse}
use Rattle.kanswer.specs.Waiting.{Shown, at_least_zero, becomes_delayed, falls_short, least_of, needs_of, operation_of, results_of, values_of, wait_of}
use Rattle.kanswer.specs.Results.{parts_asked}
use Rattle.kanswer.specs.declared.accepted.Accepted.{Accepted}
use Rattle.kanswer.proofs.Laws.{values_by_part}
use Rattle.kbytes.proofs.Laws.{same_or_not, get_set_same, get_set_other}
use Rattle.audit.specs.LawfulCall.{step_points}
use Rattle.audit.specs.declared.account.Call.{Call}
use Rattle.audit.specs.declared.account.CallHow.{CallHow}
use Rattle.audit.specs.declared.account.CallHow.TheVariants.{Quiet, AtOnce, Satisfied, Expired, Parked as Waits, Cut}
use Rattle.audit.specs.declared.account.Point.{Point}
use Rattle.audit.specs.broker.Board.{Seat, empty_history, empty_seat, history_at, next_call, seat_at, transcript_at}
use Rattle.audit.specs.broker.Completing.{finish_last, look_all}
use Rattle.kanswer.specs.WithEntry.{entered}
use Rattle.audit.specs.broker.Entering.{accept_all, shown_of, steps_of}
use Rattle.audit.proofs.broker.Laws.{looked_moment, looked_state}
use Rattle.lone_broker.specs.Desks.{next_of, transcript_of}
use Rattle.lone_broker.specs.Handled.{IsAnswered, IsHandled, IsParked}
use Rattle.lone_broker.specs.Kept.{Kept, Stands, parked_at}
use Rattle.audit.specs.broker.Board.{gauge_now}
use Rattle.lone_broker.specs.Looks.{clock_after, clock_points}
use Rattle.lone_broker.specs.Steps.{AnyLeft, HasPart, IsActed, IsAlone, IsFreed, IsLeft, IsReseated, last_points}
use Rattle.lone_broker.specs.declared.handling.Handled.{Handled}
use Rattle.lone_broker.specs.declared.parked.Parked.{Parked}
use Rattle.lone_broker.proofs.Completes.{done_seat, finished_of, look_size}
use Rattle.lone_broker.proofs.Followers.{parts_size}
use Rattle.lone_broker.proofs.ResultsStand.{accepted_size, shows_logs}
use Rattle.lone_broker.proofs.Standing.{moved, reseated, seat_set_other, seat_set_same}
use Rattle.lone_broker.proofs.Taking.{call_of, noted}

-- ---- a seat and a slot

slot_set_other : (slots : List (Option Parked)) (s t : ℕ) (slot : Option Parked) → t ≢ s → unwrap_or (slice_get (set slots s slot) t) None ≡ unwrap_or (slice_get slots t) None
slot_set_other slots s t slot other = ap (λ (o : Option (Option Parked)). unwrap_or o None) (get_set_other slots s t slot other)

slot_set_same : (slots : List (Option Parked)) (s : ℕ) (slot : Option Parked) → s < length slots → unwrap_or (slice_get (set slots s slot) s) None ≡ slot
slot_set_same slots s slot there = ap (λ (o : Option (Option Parked)). unwrap_or o None) (get_set_same slots s slot there)

pub no_less : (n : ℕ) → n ≤ n
no_less n = omega arith

-- no call is forgotten
calls_kept : (kept : Kept) (session : ℕ) (seat : Seat) → session < length kept.board.seats → next_call kept.board session ≤ next_of session seat
    → (s : ℕ) → next_call kept.board s ≤ next_of s (unwrap_or (slice_get (set kept.board.seats session seat) s) empty_seat)
calls_kept kept session seat there more s = elim (same_or_not s session) [
  | inl same ↦ subst (λ (k : ℕ). next_call kept.board k ≤ next_of k (unwrap_or (slice_get (set kept.board.seats session seat) k) empty_seat)) (sym same)
      (subst (λ (x : Seat). next_call kept.board session ≤ next_of session x) (sym (seat_set_same kept.board.seats session seat there)) more)
  | inr other ↦ subst (λ (x : Seat). next_call kept.board s ≤ next_of s x) (sym (seat_set_other kept.board.seats session s seat other)) (omega arith)
]

moved_alone : (kept : Kept) (parts : List History) (clock : List ClockEvent) (session : ℕ) (seat : Seat) (slot : Option Parked) → session < length kept.board.seats → moment_of clock ≡ moment_of kept.board.clock
    → next_call kept.board session ≤ next_of session seat → IsAlone session kept (moved kept parts clock session seat slot)
moved_alone kept parts clock session seat slot there same more = record {
  seats = λ s other. seat_set_other kept.board.seats session s seat other;
  parked = λ s other. slot_set_other kept.parked session s slot other;
  moment = same;
  calls = calls_kept kept session seat there more;
}

pub is_reseated : (kept : Kept) (session : ℕ) (seat : Seat) → session < length kept.board.seats → next_call kept.board session ≤ next_of session seat → IsReseated session kept (reseated kept session seat)
is_reseated kept session seat there more = record {
  alone = record {
    seats = λ s other. seat_set_other kept.board.seats session s seat other;
    parked = λ s other. refl;
    moment = refl;
    calls = calls_kept kept session seat there more;
  };
  slot = refl;
  parts = refl;
}

-- a session that ends, of which no request waits
pub ended_acted : (kept after : Kept) (session : ℕ) → IsReseated session kept after → parked_at kept session ≡ None → IsActed session kept after
ended_acted kept after session r idle = record {
  alone = r.alone;
  size = ap length r.parts;
  asked = λ part. inl (ap (λ (ps : List History). history_at ps part) r.parts);
  left = subst (AnyLeft session kept after) (sym (r.slot ∙ idle)) tt;
}

-- where nothing waits, nothing is answered
pub nothing_freed : (kept : Kept) (session : ℕ) → parked_at kept session ≡ None → IsFreed session kept kept
nothing_freed kept session idle = record {
  alone = record { seats = λ s other. refl; parked = λ s other. refl; moment = refl; calls = λ s. omega arith };
  size = refl;
  states = λ part. refl;
  free = idle;
}

-- ---- what acceptance leaves

part_set_other : (parts : List History) (s q : ℕ) (h : History) → q ≢ s → history_at (set parts s h) q ≡ history_at parts q
part_set_other parts s q h other = ap (λ (o : Option History). unwrap_or o (empty_history 0)) (get_set_other parts s q h other)

-- a history is as it was, or one of the points is in it
pub accepted_elsewhere : (by seq t : ℕ) (decisions : List Decision) (parts : List History) (q : ℕ)
    → (history_at (accept_all by seq t decisions parts).1 q ≡ history_at parts q) ⊎ HasPart q (step_points (steps_of (accept_all by seq t decisions parts).0))
accepted_elsewhere by seq t [] parts q = inl refl
accepted_elsewhere by seq t (Refuse code ∷ decisions) parts q = accepted_elsewhere by seq t decisions parts q
accepted_elsewhere by seq t (AskLog part outcome ∷ decisions) parts q =
    let left = entered (history_at parts part) by seq t (outcome (state_of (history_at parts part))).entry in
    elim (same_or_not q part) [
      | inl same ↦ inr (inl (sym same))
      | inr other ↦ elim (accepted_elsewhere by seq t decisions (set parts part left) q) [
        | inl is ↦ inl (is ∙ part_set_other parts part q left other)
        | inr among ↦ inr (inr among)
      ]
    ]

has_part_front : (q : ℕ) (points more : List Point) → HasPart q points → HasPart q (points ++ more)
has_part_front q [] more has = absurd has
has_part_front q (point ∷ points) more has = elim has [ inl here ↦ inl here | inr later ↦ inr (has_part_front q points more later) ]

last_points_of : (calls : List Call) (call : Call) → last_points (calls ++ call ∷ []) ≡ call.accept
last_points_of [] call = refl
last_points_of (first ∷ []) call = refl
last_points_of (first ∷ next ∷ calls) call = last_points_of (next ∷ calls) call

-- ---- what is parked isn't satisfied

and_true : (a b : Bool) → (a && b) ≡ true → b ≡ true
and_true true b e = e
and_true false b e = absurd cc

delayed_short : (ask : Ask) (shown : List Shown) → becomes_delayed ask shown ≡ true → falls_short ask shown ≡ true
delayed_short (Produce version transactional acks timeout topics) shown e = and_true _ _ (and_true _ _ e)
delayed_short (Fetch version replica max_wait min_bytes max_bytes isolation topics) shown e = and_true _ _ (and_true _ _ e)
delayed_short (Metadata topics) shown e = absurd cc
delayed_short (Versions version) shown e = absurd cc

-- ---- its deadline is near

few_ms : (z : ℤ) → SFits w32 z → at_least_zero z < 2 ^ 31
few_ms (pos n) fits = fits.sfits
few_ms (negsuc n) fits = omega arith

ask_near : (ask : Ask) → AllByRecursion FitsField (ask_fields ask) → wait_of ask < 2 ^ 31
ask_near (Produce version transactional acks timeout topics) fits = few_ms timeout fits.1.1.0
ask_near (Fetch version replica max_wait min_bytes max_bytes isolation topics) fits = few_ms max_wait fits.1.0
ask_near (Metadata topics) fits = omega arith
ask_near (Versions version) fits = omega arith

request_near : (body : List ℕ) (request : Request) → IsRequest body request → wait_of request.ask < 2 ^ 31
request_near body request (inl whole) = ask_near request.ask (spelled_fits body request whole.whole).1.1.1.1
request_near body request (inr other) = subst (λ (ask : Ask). wait_of ask < 2 ^ 31) (sym other.asked) (omega arith)

-- a request whose decisions were carried out from these histories on
module _ (config : Configuration) (request : Request) (body : List ℕ) (by seq t : ℕ) (decisions : List Decision) (parts : List History) (asked : IsRequest body request) (decided : Decides config request.ask decisions) (size : length parts ≡ partitions_of config.topics) where
  abbrev after : List History
  after = (accept_all by seq t decisions parts).1

  abbrev shown : List Shown
  shown = shown_of (accept_all by seq t decisions parts).0

  abbrev needs : List Need
  needs = needs_of request.ask (results_of shown)

  values_now : values_of request.ask shown ≡ map (gauge_now after) needs
  values_now = values_by_part (λ part. state_of (history_at after part)) request.ask shown (shows_logs config request body by seq t decisions parts asked decided size).states

  delayed_unreached : becomes_delayed request.ask shown ≡ true → tally needs (map (gauge_now after) needs) < least_of request.ask needs
  delayed_unreached delayed =
      subst (λ (vs : List ℕ). tally needs vs < least_of request.ask needs) values_now
      (ltb-true (tally needs (values_of request.ask shown)) (least_of request.ask needs) (delayed_short request.ask shown delayed))

  abbrev done_as : (clock later : List ClockEvent) (done : Handled) (text more : List ℕ) → Bool → Type 0
  done_as clock later done text more b =
      MatchBool b (IsParked by seq request (accept_all by seq t decisions parts).0 clock later done text more) (IsAnswered config by request (accept_all by seq t decisions parts).0 clock later done text more)

  done_moment : (clock later : List ClockEvent) (done : Handled) (text more : List ℕ) (b : Bool) → done_as clock later done text more b → moment_of later ≡ moment_of clock
  done_moment clock later done text more true p = ap moment_of p.looked ∙ looked_moment clock by seq
  done_moment clock later done text more false a = ap moment_of a.still

  done_points : (clock later : List ClockEvent) (done : Handled) (text more : List ℕ) (b : Bool) → done_as clock later done text more b → (q : ℕ) → HasPart q (step_points (steps_of (accept_all by seq t decisions parts).0)) → HasPart q done.accept
  done_points clock later done text more true p q has = subst (HasPart q) (sym p.points) (has_part_front q (step_points (steps_of (accept_all by seq t decisions parts).0)) _ has)
  done_points clock later done text more false a q has = subst (HasPart q) (sym a.points) has

  done_left : (clock later : List ClockEvent) (done : Handled) (text more : List ℕ) (b : Bool) → becomes_delayed request.ask shown ≡ b → done_as clock later done text more b
      → (before next : Kept) (session : ℕ) → next.board.parts ≡ after → next.board.clock ≡ later → next_call before.board session < next_call next.board session → AnyLeft session before next done.parked
  done_left clock later done text more true is p before next session is_parts is_clock counted =
      let slot : Parked = record { accepted = results_of shown; op = operation_of request.ask (results_of shown) (moment_of later) } in
      let left : IsLeft session before next slot = record {
        unreached = subst (λ (ps : List History). tally needs (map (gauge_now ps) needs) < least_of request.ask needs) (sym is_parts) (delayed_unreached is);
        near = subst (λ (cs : List ClockEvent). moment_of later + wait_of request.ask < moment_of cs + 2 ^ 31) (sym is_clock) (omega (arith, request_near body request asked));
        counted = counted;
      } in
      subst (AnyLeft session before next) (sym p.some) left
  done_left clock later done text more false is a before next session is_parts is_clock counted = subst (AnyLeft session before next) (sym a.none) tt

noted_calls : (kept : Kept) (session end : ℕ) (call : Call) → next_of session (noted session end call (seat_at kept.board session)) ≡ next_call kept.board session + 1
noted_calls kept session end call =
    let calls = (transcript_at kept.board session).calls in
    omega (arith, length-append calls (call ∷ []))

-- a session whose request at the front, which has this body and ends before this place, was handled
pub handled_acted : (kept : Kept) (session end seq : ℕ) (request : Request) (parts : List History) (clock : List ClockEvent) (done : Handled) (text more body : List ℕ) → Stands kept → session < 64 → IsRequest body request
    → IsHandled kept.board.config session seq request kept.board.parts parts kept.board.clock clock done text more
    → (frame : List ℕ) → IsActed session kept (moved kept parts clock session (noted session end (call_of frame done.accept [] done.how) (seat_at kept.board session)) done.parked)
handled_acted kept session end seq request parts clock done text more body stands there asked h frame =
    let are = stands.1.kept_of in
    let config = kept.board.config in
    let size = parts_size config.topics kept.board.parts are.followers in
    let call = call_of frame done.accept [] done.how in
    let seat = noted session end call (seat_at kept.board session) in
    let next = moved kept parts clock session seat done.parked in
    let seated : session < length kept.board.seats = omega (arith, are.seats, there) in
    let at_seat : seat_at next.board session ≡ seat = seat_set_same kept.board.seats session seat seated in
    let points : last_points (transcript_at next.board session).calls ≡ done.accept =
    ap (λ (x : Seat). last_points (transcript_of session x).calls) at_seat ∙ last_points_of (transcript_of session (seat_at kept.board session)).calls call in
    let counted : next_call next.board session ≡ next_call kept.board session + 1 = ap (next_of session) at_seat ∙ noted_calls kept session end call in
    let delayed : Bool = becomes_delayed request.ask (shown_of (accept_all session seq (moment_of kept.board.clock) h.decisions kept.board.parts).0) in
    record {
      alone = moved_alone kept parts clock session seat done.parked seated
          (done_moment config request body session seq (moment_of kept.board.clock) h.decisions kept.board.parts asked h.decided size kept.board.clock clock done text more delayed h.became)
          (omega (arith, noted_calls kept session end call));
      size = ap length h.histories ∙ accepted_size session seq (moment_of kept.board.clock) h.decisions kept.board.parts;
      asked = λ q. elim (accepted_elsewhere session seq (moment_of kept.board.clock) h.decisions kept.board.parts q) [
        | inl same ↦ inl (ap (λ (ps : List History). history_at ps q) h.histories ∙ same)
        | inr has ↦ inr (subst (HasPart q) (sym points) (done_points config request body session seq (moment_of kept.board.clock) h.decisions kept.board.parts asked h.decided size kept.board.clock clock done text more delayed h.became q has))
      ];
      left = subst (AnyLeft session kept next) (sym (slot_set_same kept.parked session done.parked (omega (arith, are.parked, there))))
          (done_left config request body session seq (moment_of kept.board.clock) h.decisions kept.board.parts asked h.decided size kept.board.clock clock done text more delayed refl h.became kept next session h.histories refl (omega (arith, counted)));
    }

-- ---- what the looks of a completion leave

look_state : (parts : List History) (x q : ℕ) (h : History) → state_of h ≡ state_of (history_at parts x) → state_of (history_at (set parts x h) q) ≡ state_of (history_at parts q)
look_state [] x q h same = refl
look_state (p ∷ parts) zero zero h same = same
look_state (p ∷ parts) zero (suc q) h same = refl
look_state (p ∷ parts) (suc x) zero h same = refl
look_state (p ∷ parts) (suc x) (suc q) h same = look_state parts x q h same

look_states : (by seq : ℕ) (xs : List ℕ) (parts : List History) (q : ℕ) → state_of (history_at (look_all by seq xs parts).1 q) ≡ state_of (history_at parts q)
look_states by seq [] parts q = refl
look_states by seq (x ∷ xs) parts q =
    let left = looked (history_at parts x) by seq in
    look_states by seq xs (set parts x left) q ∙ look_state parts x q left (looked_state (history_at parts x) by seq)

clock_moment : (how : CallHow) (by seq : ℕ) (clock : List ClockEvent) → moment_of (clock_after how by seq clock) ≡ moment_of clock
clock_moment Quiet by seq clock = refl
clock_moment AtOnce by seq clock = refl
clock_moment (Satisfied winner) by seq clock = refl
clock_moment (Expired winner) by seq clock = looked_moment clock by seq
clock_moment Waits by seq clock = refl
clock_moment (Cut won) by seq clock = refl

finish_length : (finish : List Point) (how : CallHow) (calls : List Call) → length (finish_last finish how calls) ≡ length calls
finish_length finish how [] = refl
finish_length finish how (call ∷ []) = refl
finish_length finish how (call ∷ next ∷ calls) = ap suc (finish_length finish how (next ∷ calls))

pub finished_freed : (kept : Kept) (session : ℕ) (how : CallHow) (accepted : List Accepted) → Stands kept → session < 64 → IsFreed session kept (finished_of kept session how accepted)
finished_freed kept session how accepted stands there =
    let seq = next_call kept.board session - 1 in
    let looks = look_all session seq (parts_asked accepted) kept.board.parts in
    let clock = clock_after how session seq kept.board.clock in
    let finish : List Point = clock_points how kept.board.clock ++ looks.0 in
    let seat = done_seat session finish how (seat_at kept.board session) in
    let same = finish_length finish how (transcript_at kept.board session).calls in
    record {
      alone = moved_alone kept looks.1 clock session seat None (omega (arith, stands.1.kept_of.seats, there)) (clock_moment how session seq kept.board.clock) (omega (arith, same));
      size = look_size session seq (parts_asked accepted) kept.board.parts;
      states = look_states session seq (parts_asked accepted) kept.board.parts;
      free = slot_set_same kept.parked session None (omega (arith, stands.1.kept_of.parked, there));
    }
