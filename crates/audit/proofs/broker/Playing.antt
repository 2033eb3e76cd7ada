-- A play keeps its board sound, and between two lines it is at rest: so its account is lawful.
use Rattle.std.proofs.Common.{◌≡◌, ℕ, zero, suc, ◌≤◌, ◌<◌, ◌⊎◌, Bool, true, false, max, pos, cond, eqb, List, [], ◌∷◌, ◌++◌, length, map, set, replicate, Option, Some, None, MatchBool, unwrap_or, refl, sym, ap, subst, ◌∙◌, arith, append-nil, inl, inr}
use Rattle.std.proofs.lemmas.Bool.{ltb-true, eqb-true}
use Rattle.std.proofs.lemmas.List.{length-map, length-set, length-replicate, map-append}
use Rattle.std.proofs.lemmas.Option.{slice_get_within}
use Rattle.std.specs.Prelude.{slice_get, nat_lt, ◌==◌}
use Rattle.std.specs.List.{AllByRecursion, filter_map, fold, range_with_len}
use Rattle.std.specs.List.Sorted.{IsStrictlyIncreasing}
use Rattle.partlog.specs.declared.clock_event.ClockEvent.{ClockEvent}
use Rattle.partlog.specs.declared.clock_event.ClockEvent.TheVariants as clocks
use Rattle.partlog.specs.declared.event.PartEvent.{PartEvent}
use Rattle.partlog.specs.declared.event.PartEvent.TheVariants.{Shrink}
use Rattle.partlog.specs.History.{History}
use Rattle.partlog.specs.Lagging.{LeftLate}
use Rattle.partlog.specs.Moment.{moment_of, tick_of}
use Rattle.partlog.specs.Shrunk.{all_shrunk, late_at, shrinks_at}
use Rattle.partlog.proofs.Laws.{late-all-shrunk, same-all-shrunk}
use Rattle.audit.specs.declared.account.SessionEnd.{SessionEnd}
use Rattle.audit.specs.declared.account.SessionEnd.TheVariants.{Refused}
use Rattle.audit.specs.declared.account.TheConstants.{MOST_CALLS}
use Rattle.audit.specs.declared.account.Point.{Point}
use Rattle.audit.specs.Histories.{Owner, clock_owner_of, owner_of, ticks_of}
use Rattle.kbytes.proofs.Laws.{same_or_not, get_set_other, some_is}
use Rattle.kwire.specs.declared.frame.Frame.{Frame}
use Rattle.kwire.specs.declared.frame.Frame.TheVariants.{Whole, NotYet, TooLong}
use Rattle.kwire.specs.Configuration.{Configuration, partitions_of, followers_of}
use Rattle.kwire.specs.Frames.{next_frame_of}
use Rattle.trace_file.specs.declared.line.Line.{Line}
use Rattle.trace_file.specs.declared.line.Line.TheVariants.{Topic, Feed, Shut, Clock, End}
use Rattle.audit.specs.broker.Acting.{is_there, HandlesFrame, Acts, ActsOn}
use Rattle.audit.specs.broker.Board.{Board, Seat, Waiting, empty_history, empty_seat, new_transcript, seat_at, transcript_at, next_call, opening}
use Rattle.audit.specs.broker.Completing.{is_answerable_now, completed, unless_none, answered_in, scan_sessions, scanned}
use Rattle.audit.specs.broker.GoesOn.{the_owner, AllLonger, AllWhole, IsWhole, HaveGrown, Longer}
use Rattle.audit.specs.broker.Kept.{IsKept, owners_here, owners_at}
use Rattle.audit.specs.broker.Play.{brought, ticked, with_seat}
use Rattle.audit.specs.broker.Turns.{Turned, ended}
use Rattle.audit.proofs.broker.Cases.{either_way, no_end}
use Rattle.audit.proofs.broker.Counting.{AllBelow, rises_on}
use Rattle.audit.proofs.broker.Fair.{followers_size}
use Rattle.audit.proofs.broker.Going.{grown_clock}
use Rattle.audit.proofs.broker.Late.{AllLate}
use Rattle.audit.proofs.broker.Lawful.{get_map, map_get}
use Rattle.audit.proofs.broker.Ledger.{HasNobodysMore, kept_grown}
use Rattle.audit.proofs.broker.Timely.{IsTimelyEvent, NewEvents, events_at, events_of_part, events_there, rows_seen, tick_told, ticks_append, timely_events, timely_more}
use Rattle.audit.proofs.broker.Boards.{IsSound, session_on, sound_alike, find_is, none_waits, waiting_of, ledger_of}
use Rattle.audit.proofs.broker.Acts.{handled_sound, ended_sound}
use Rattle.audit.proofs.broker.Answering.{completed_sound}
use Rattle.audit.proofs.broker.Work.{IsOpen}

-- ---- before the first line

empty_whole : (followers : List ℕ) → AllWhole (map empty_history followers)
empty_whole [] p h e = absurd cc
empty_whole (n ∷ followers) zero h e = subst IsWhole (some_is (empty_history n) h e) refl
empty_whole (n ∷ followers) (suc p) h e = empty_whole followers p h e

empty_followers : (followers : List ℕ) → map (λ (h : History). h.followers) (map empty_history followers) ≡ followers
empty_followers [] = refl
empty_followers (n ∷ followers) = ap (λ (ns : List ℕ). n ∷ ns) (empty_followers followers)

nobodys_here : (followers : List ℕ) (p : ℕ) → owners_here (slice_get (map empty_history followers) p) ≡ []
nobodys_here [] p = refl
nobodys_here (n ∷ followers) zero = refl
nobodys_here (n ∷ followers) (suc p) = nobodys_here followers p

pub nobodys : (followers : List ℕ) (p : ℕ) → owners_at (map empty_history followers) [] p ≡ []
nobodys followers p = either_way (λ (os : List (Option Owner)). os ≡ []) (eqb p 64) [] (owners_here (slice_get (map empty_history followers) p)) refl (nobodys_here followers p)

no_event : (followers : List ℕ) (p place : ℕ) (event : PartEvent) → slice_get (events_at (map empty_history followers) p) place ≡ Some event → ⊥
no_event [] p place event e = absurd cc
no_event (n ∷ followers) zero place event e = absurd cc
no_event (n ∷ followers) (suc p) place event e = no_event followers p place event e

none_kept : (followers : List ℕ) → IsKept (owners_at (map empty_history followers) []) (ledger_of new_transcript)
none_kept followers = record {
  left = λ p k by seq e.
      let none : slice_get [] k ≡ Some (the_owner by seq) = subst (λ (os : List (Option Owner)). slice_get os k ≡ Some (the_owner by seq)) (nobodys followers p) e in
      absurd cc;
  points = λ by seq points e. absurd cc;
  order = λ by p k lt. absurd (omega (arith, lt));
}

pub empty_there : (n s : ℕ) → unwrap_or (slice_get (replicate n empty_seat) s) empty_seat ≡ empty_seat
empty_there zero s = refl
empty_there (suc n) zero = refl
empty_there (suc n) (suc s) = empty_there n s

pub opening_sound : (config : Configuration) → partitions_of config.topics ≤ 64 → IsSound (opening config)
opening_sound config few = record {
  count = length-replicate 64 empty_seat;
  sound = sound_alike config (opening config).parts [] [] new_transcript (transcript_at (opening config)) (λ s. ap (λ (seat : Seat). unwrap_or seat.transcript (new_transcript s)) (empty_there 64 s)) (record {
    histories = record {
      whole = empty_whole (followers_of config.topics);
      few = omega (arith, length-map (followers_of config.topics) empty_history, followers_size config.topics, few);
      followers = empty_followers (followers_of config.topics);
      ticks = λ k lt. absurd (omega (arith, lt));
    };
    kept = none_kept (followers_of config.topics);
    sessions = λ s. record { number = refl; first = refl; stand = tt };
    alone = λ i w e. absurd cc;
    late = λ p h e place by t replica there. absurd (no_event (followers_of config.topics) p place (Shrink by replica t) (ap (λ (es : List PartEvent). slice_get es place) (events_of_part (opening config).parts p h e) ∙ there));
    timely = λ by. timely_events by (opening config).parts [] [] (λ p place event e. absurd (no_event (followers_of config.topics) p place event e));
  });
}

-- ---- a line

-- a session whose transcript stands as it was
set_or_past : {X : Type 0} (xs : List X) (i : ℕ) (y : X) → (slice_get (set xs i y) i ≡ Some y) ⊎ ((slice_get (set xs i y) i ≡ None) × (slice_get xs i ≡ None))
set_or_past [] i y = inr (refl, refl)
set_or_past (x ∷ xs) zero y = inl refl
set_or_past (x ∷ xs) (suc i) y = set_or_past xs i y

pub seat_named : (board : Board) (s : ℕ) (inbox : List ℕ) (shut : Bool) (r : ℕ) → transcript_at (with_seat board s inbox shut) r ≡ transcript_at board r
seat_named board s inbox shut r =
    let seat : Seat = record { inbox = inbox; is_shut = shut; transcript = Some (transcript_at board s) } in
    let read = λ (o : Option Seat). unwrap_or (unwrap_or o empty_seat).transcript (new_transcript s) in
    elim (same_or_not r s) [
      | inl same ↦
          let there : transcript_at (with_seat board s inbox shut) s ≡ transcript_at board s =
          elim (set_or_past board.seats s seat) [ inl is ↦ ap read is | inr past ↦ ap read past.0 ∙ sym (ap read past.1) ] in
          ap (λ (i : ℕ). transcript_at (with_seat board s inbox shut) i) same ∙ there ∙ sym (ap (λ (i : ℕ). transcript_at board i) same)
      | inr other ↦ ap (λ (o : Option Seat). unwrap_or (unwrap_or o empty_seat).transcript (new_transcript r)) (get_set_other board.seats s r seat other)
    ]

named_sound : (board : Board) (s : ℕ) (inbox : List ℕ) (shut : Bool) → IsSound board → IsSound (with_seat board s inbox shut)
named_sound board s inbox shut h = record {
  count = length-set board.seats s (record { inbox = inbox; is_shut = shut; transcript = Some (transcript_at board s) }) ∙ h.count;
  sound = sound_alike board.config board.parts board.clock board.waiting (transcript_at board) (transcript_at (with_seat board s inbox shut)) (seat_named board s inbox shut) h.sound;
}

pub ticks_more : (clock : List ClockEvent) (t : ℕ) → ticks_of (clock ++ clocks.Tick t ∷ []) ≡ ticks_of clock ++ t ∷ []
ticks_more clock t = ticks_append clock (clocks.Tick t ∷ [])

-- every tick is at most the moment
ticks_below : (clock : List ClockEvent) (least t : ℕ) → fold max least (filter_map tick_of clock) < t → (least < t) × AllBelow t (ticks_of clock)
ticks_below [] least t lt = (lt, tt)
ticks_below (clocks.Tick u ∷ clock) least t lt =
    let rest = ticks_below clock (max least u) t lt in
    (omega (arith, rest.0), (omega (arith, rest.0), rest.1))
ticks_below (clocks.Look by seq ∷ clock) least t lt = ticks_below clock least t lt

-- a tick above the moment rises above all others
pub ticks_rise : (clock : List ClockEvent) (t : ℕ) → IsStrictlyIncreasing (0 ∷ ticks_of clock) → moment_of clock < t → IsStrictlyIncreasing (0 ∷ ticks_of (clock ++ clocks.Tick t ∷ []))
ticks_rise clock t rises lt = subst (λ (ts : List ℕ). IsStrictlyIncreasing (0 ∷ ts)) (sym (ticks_more clock t)) (rises_on t 1 (0 ∷ ticks_of clock) rises (ticks_below clock 0 t lt))

-- ---- a tick, and then all who lagged left

pub shrunk_longer : (h : History) (by t : ℕ) → Longer h (all_shrunk h by t)
shrunk_longer h by t = record { followers = refl; more = shrinks_at h by t; bytes = []; events = refl; log = sym (append-nil h.log) }

-- a leave is of no call
leaves_nobodys : (by t : ℕ) (late : List ℕ) → AllByRecursion (λ o. o ≡ None) (map owner_of (map (λ replica. Shrink by (pos replica) t) late))
leaves_nobodys by t [] = tt
leaves_nobodys by t (replica ∷ late) = (refl, leaves_nobodys by t late)

pub shrunk_whole : (h : History) (by t : ℕ) → IsWhole h → IsWhole (all_shrunk h by t)
shrunk_whole h by t whole = (same-all-shrunk h by t).bytes ∙ whole

behind_front : {X : Type 0} (xs ys : List X) (k : ℕ) (x : X) → slice_get (xs ++ ys) k ≡ Some x → length xs ≤ k → (j : ℕ) × (slice_get ys j ≡ Some x)
behind_front [] ys k x e past = (k, e)
behind_front (y ∷ xs) ys zero x e past = absurd (omega (arith, past))
behind_front (y ∷ xs) ys (suc k) x e past = behind_front xs ys k x e (omega (arith, past))

-- those are all the entries that came
pub shrunk_new : (h : History) (by t k : ℕ) (event : PartEvent) → slice_get (all_shrunk h by t).events k ≡ Some event → length h.events ≤ k → (replica : ℕ) × (event ≡ Shrink by (pos replica) t)
shrunk_new h by t k event e past =
    let found = behind_front h.events (shrinks_at h by t) k event e past in
    let left = get_map (λ (replica : ℕ). Shrink by (pos replica) t) (late_at h t) found.0 event found.1 in
    (left.0, sym left.2)

module _ (board : Board) (t : ℕ) (h : IsSound board) (lt : moment_of board.clock < t) where
  abbrev behind : List ClockEvent
  behind = board.clock ++ clocks.Tick t ∷ []

  abbrev left_at : History → History
  left_at k = all_shrunk k 0 t

  abbrev later : List History
  later = map left_at board.parts

  size : length later ≡ length board.parts
  size = length-map board.parts left_at

  longer : AllLonger board.parts later
  longer p k e = (all_shrunk k 0 t, map_get left_at board.parts p k e, shrunk_longer k 0 t)

  grown : HaveGrown board.parts board.clock later behind
  grown = grown_clock board.parts later board.clock (clocks.Tick t) longer

  whole_later : AllWhole later
  whole_later p l e =
      let found = get_map left_at board.parts p l e in
      subst IsWhole found.2 (shrunk_whole found.0 0 t (h.sound.histories.whole p found.0 found.1))

  followers_later : (parts : List History) → map (λ (k : History). k.followers) (map left_at parts) ≡ map (λ (k : History). k.followers) parts
  followers_later [] = refl
  followers_later (k ∷ parts) = ap (λ (ns : List ℕ). k.followers ∷ ns) (followers_later parts)

  nobodys_part : (parts : List History) (p : ℕ) → HasNobodysMore (owners_here (slice_get parts p)) (owners_here (slice_get (map left_at parts) p))
  nobodys_part [] p = ([], refl, tt)
  nobodys_part (k ∷ parts) zero = (map owner_of (shrinks_at k 0 t), map-append owner_of k.events (shrinks_at k 0 t), leaves_nobodys 0 t (late_at k t))
  nobodys_part (k ∷ parts) (suc p) = nobodys_part parts p

  nobodys_more : (p : ℕ) → HasNobodysMore (owners_at board.parts board.clock p) (owners_at later behind p)
  nobodys_more p = by_clock (eqb p 64)
    where
      by_clock : (b : Bool) → HasNobodysMore (cond b (map clock_owner_of board.clock) (owners_here (slice_get board.parts p))) (cond b (map clock_owner_of behind) (owners_here (slice_get later p)))
      by_clock true = (None ∷ [], map-append clock_owner_of board.clock (clocks.Tick t ∷ []), (refl, tt))
      by_clock false = nobodys_part board.parts p

  late_later : AllLate later
  late_later p l e =
      let found = get_map left_at board.parts p l e in
      subst (λ (k : History). LeftLate k.followers k.events) found.2 (late-all-shrunk found.0 0 t (h.sound.late p found.0 found.1))

  leaves_timely : (r : ℕ) (rows : List (List Point)) → NewEvents board.parts later (IsTimelyEvent r behind rows)
  leaves_timely r rows p place event e past =
      let there = events_there later p place (slice_get_within (events_at later p) place event e) in
      let found = get_map left_at board.parts p there.0 there.1 in
      let after : events_at later p ≡ (all_shrunk found.0 0 t).events = events_of_part later p there.0 there.1 ∙ ap (λ (k : History). k.events) (sym found.2) in
      let before : length (events_at board.parts p) ≡ length found.0.events = ap length (events_of_part board.parts p found.0 found.1) in
      let left = shrunk_new found.0 0 t place event (sym (ap (λ (es : List PartEvent). slice_get es place) after) ∙ e) (omega (arith, past, before)) in
      subst (IsTimelyEvent r behind rows) (sym left.1) (λ own. tick_told board.clock t)

  tick_sound : IsSound (ticked board t)
  tick_sound = record {
    count = h.count;
    sound = record {
      histories = record {
        whole = whole_later;
        few = omega (arith, h.sound.histories.few, size);
        followers = followers_later board.parts ∙ h.sound.histories.followers;
        ticks = ticks_rise board.clock t h.sound.histories.ticks lt;
      };
      kept = kept_grown (owners_at board.parts board.clock) (owners_at later behind) (ledger_of (transcript_at board)) nobodys_more h.sound.kept;
      sessions = λ s. session_on board.config board.parts later board.clock behind grown (omega (arith, size)) s (waiting_of board.waiting s) (transcript_at board s) (h.sound.sessions s);
      alone = h.sound.alone;
      late = late_later;
      timely = λ r.
          let rows = ledger_of (transcript_at board) r in
          timely_more r board.parts later board.clock behind rows grown (rows_seen r board.parts board.clock rows (h.sound.kept.points r)) (leaves_timely r rows) (h.sound.timely r);
    };
  }

pub brought_sound : (board : Board) (line : Line) → IsSound board → IsSound (brought board line)
brought_sound board (Topic name partitions followers least) h = h
brought_sound board (Feed session bytes) h =
    let inbox = (seat_at board session).inbox in
    named_sound board session (cond (is_there (transcript_at board session).end) inbox (inbox ++ bytes)) (seat_at board session).is_shut h
brought_sound board (Shut session) h = named_sound board session (seat_at board session).inbox true h
brought_sound board (Clock t) h = by_test (nat_lt (moment_of board.clock) t) refl
  where
    by_test : (b : Bool) → nat_lt (moment_of board.clock) t ≡ b → IsSound (cond b (ticked board t) board)
    by_test true is = tick_sound board t h (ltb-true (moment_of board.clock) t is)
    by_test false is = h
brought_sound board End h = h

-- ---- a scan

-- the session of a request that waits
pub waits_of_its_own : (board : Board) (s : ℕ) (w : Waiting) → waiting_of board.waiting s ≡ Some w → w.session ≡ s
waits_of_its_own board s w e = eqb-true w.session s (find_is (λ (x : Waiting). x.session == s) board.waiting w e)

pub waits_own : (board : Board) (s : ℕ) (w : Waiting) → waiting_of board.waiting s ≡ Some w → waiting_of board.waiting w.session ≡ Some w
waits_own board s w e = ap (waiting_of board.waiting) (waits_of_its_own board s w e) ∙ e

unless_sound : (board : Board) (s : ℕ) (o : Option Waiting) → waiting_of board.waiting s ≡ o → IsSound board → IsSound (unless_none board o).board
unless_sound board s None e h = h
unless_sound board s (Some w) e h = by_test (is_answerable_now board w) refl
  where
    by_test : (b : Bool) → is_answerable_now board w ≡ b → IsSound (cond b (completed board w) (record { board = board; text = [] })).board
    by_test true is = completed_sound board w h (waits_own board s w e) is
    by_test false is = h

pub answered_sound : (board : Board) (s : ℕ) → IsSound board → IsSound (answered_in board s).board
answered_sound board s h = unless_sound board s (waiting_of board.waiting s) refl h

scan_sound : (sessions : List ℕ) (board : Board) → IsSound board → IsSound (scan_sessions sessions board).board
scan_sound [] board h = h
scan_sound (s ∷ sessions) board h = scan_sound sessions (answered_in board s).board (answered_sound board s h)

pub scanned_sound : (board : Board) → IsSound board → IsSound (scanned board).board
scanned_sound board h = scan_sound (range_with_len 0 64) board h

-- ---- an act

whole_sound : (full : Bool) (board : Board) (s : ℕ) (body : List ℕ) (last : SessionEnd) (turned : Turned) → IsSound board → IsOpen board s
    → MatchBool full (turned ≡ ended board s last) (HandlesFrame board s body turned) → IsSound turned.board
whole_sound true board s body last turned h o is = subst (λ (t : Turned). IsSound t.board) (sym is) (ended_sound board s last h o.there (none_waits board.waiting s o.no_wait))
whole_sound false board s body last turned h o (inl took) =
    subst (λ (t : Turned). IsSound t.board) (sym took.4)
    (handled_sound board s body took.0 took.1 h o.there (none_waits board.waiting s o.no_wait) took.2 took.3 (no_end (transcript_at board s).end o.goes_on))
whole_sound false board s body last turned h o (inr refused) =
    subst (λ (t : Turned). IsSound t.board) (sym refused.2) (ended_sound board s (Refused refused.0) h o.there (none_waits board.waiting s o.no_wait))

act_sound : (board : Board) (s : ℕ) (frame : Frame) (turned : Turned) → IsSound board → IsOpen board s → ActsOn board s frame turned → IsSound turned.board
act_sound board s (Whole end) turned h o acts = whole_sound (next_call board s == MOST_CALLS) board s _ _ turned h o acts
act_sound board s NotYet turned h o acts = subst (λ (t : Turned). IsSound t.board) (sym acts) (ended_sound board s _ h o.there (none_waits board.waiting s o.no_wait))
act_sound board s (TooLong size) turned h o acts = subst (λ (t : Turned). IsSound t.board) (sym acts) (ended_sound board s _ h o.there (none_waits board.waiting s o.no_wait))

pub acts_sound : (board : Board) (s : ℕ) (turned : Turned) → IsSound board → IsOpen board s → Acts board s turned → IsSound turned.board
acts_sound board s turned h o acts = act_sound board s (next_frame_of (seat_at board s).inbox) turned h o acts
