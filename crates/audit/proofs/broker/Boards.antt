-- What holds of a board stays as one session does something: its seat changes, and the histories go on.
use Rattle.std.proofs.Common.{◌≡◌, ◌≢◌, ℕ, zero, suc, ◌≤◌, ◌<◌, Bool, true, false, not, cond, eqb, List, [], ◌∷◌, ◌++◌, length, map, filter, set, Option, Some, None, unwrap_or, refl, sym, ap, subst, ◌∙◌, arith, inl, inr, eq-eqb}
use Rattle.std.proofs.lemmas.Bool.{ne_eqb, eqb-true, cases_lt}
use Rattle.std.proofs.lemmas.List.{length-set}
use Rattle.std.proofs.lemmas.List.Folds.{find-append}
use Rattle.std.proofs.lemmas.Option.{slice_get_past}
use Rattle.std.specs.Prelude.{slice_get, ◌==◌, ◌||◌}
use Rattle.std.specs.List.{find, list_any}
use Rattle.std.specs.Option.{option_or}
use Rattle.partlog.specs.declared.clock_event.ClockEvent.{ClockEvent}
use Rattle.partlog.specs.History.{History}
use Rattle.audit.specs.declared.account.Call.{Call}
use Rattle.audit.specs.declared.account.CallHow.{CallHow}
use Rattle.audit.specs.declared.account.Point.{Point}
use Rattle.audit.specs.declared.account.Transcript.{Transcript}
use Rattle.audit.specs.Histories.{points_of}
use Rattle.kbytes.proofs.Laws.{same_or_not, get_set_same, get_set_other, some_is}
use Rattle.kwire.specs.Configuration.{Configuration}
use Rattle.audit.specs.broker.Board.{Board, Seat, Waiting, empty_seat, new_transcript, transcript_at}
use Rattle.audit.specs.broker.Completing.{finish_last}
use Rattle.audit.specs.broker.GoesOn.{HaveGrown}
use Rattle.audit.specs.broker.Kept.{IsKept, owners_at}
use Rattle.audit.specs.broker.Timely.{IsTimely}
use Rattle.audit.proofs.broker.Going.{carried_on}
use Rattle.audit.proofs.broker.Calls.{IsDelayedAs}
use Rattle.audit.proofs.broker.Counting.{below_more}
use Rattle.audit.proofs.broker.Late.{AllLate}
use Rattle.audit.proofs.broker.Ledger.{put, put_same, put_other, kept_alike, all_on, push_get}
use Rattle.audit.specs.LawfulCall.{IsWholeCall, operation_parts}
pub use Rattle.audit.specs.broker.Sound.{IsDone, IsWaiting, AreDone, WaitsLast, Stand, IsSession, AreHistories, WaitAlone, AreSound, IsSound, ledger_of, waiting_of}

-- ---- what holds of calls holds on

module _ (config : Configuration) (parts later : List History) (clock behind : List ClockEvent) (grown : HaveGrown parts clock later behind) (longer : length parts ≤ length later) where
  pub done_on : (call : Call) → IsDone config parts clock call → IsDone config later behind call
  done_on call done = record { over = done.over; whole = carried_on config parts later clock behind (λ account. IsWholeCall account call) grown done.whole }

  pub all_done_on : (calls : List Call) → AreDone config parts clock calls → AreDone config later behind calls
  all_done_on calls done = all_on (IsDone config parts clock) (IsDone config later behind) done_on calls done

  pub waiting_on : (w : Waiting) (call : Call) → IsWaiting config parts clock w call → IsWaiting config later behind w call
  waiting_on w call waits = record {
    delayed = carried_on config parts later clock behind (IsDelayedAs w call) grown waits.delayed;
    unfinished = waits.unfinished;
    how = waits.how;
    within = below_more (length parts) (length later) (operation_parts w.steps) longer waits.within;
  }

  stand_on : (s : ℕ) (o : Option Waiting) (t : Transcript) → Stand config parts clock s o t → Stand config later behind s o t
  stand_on s None t stand = all_done_on t.calls stand
  stand_on s (Some w) t stand = record {
    front = stand.front;
    call = stand.call;
    calls = stand.calls;
    done = all_done_on stand.front stand.done;
    waits = waiting_on w stand.call stand.waits;
    own = stand.own;
    going = stand.going;
  }

  pub session_on : (s : ℕ) (o : Option Waiting) (t : Transcript) → IsSession config parts clock s o t → IsSession config later behind s o t
  session_on s o t is = record { number = is.number; first = is.first; stand = stand_on s o t is.stand }

-- ---- one session changes

pub sound_alike : (config : Configuration) (parts : List History) (clock : List ClockEvent) (waiting : List Waiting) (t t1 : ℕ → Transcript) → ((r : ℕ) → t1 r ≡ t r)
    → AreSound config parts clock waiting t → AreSound config parts clock waiting t1
sound_alike config parts clock waiting t t1 same h = record {
  histories = h.histories;
  kept = kept_alike (owners_at parts clock) (ledger_of t) (ledger_of t1) (λ r. ap (λ (x : Transcript). map points_of x.calls) (same r)) h.kept;
  sessions = λ r. subst (IsSession config parts clock r (waiting_of waiting r)) (sym (same r)) (h.sessions r);
  alone = h.alone;
  late = h.late;
  timely = λ r. subst (λ (x : Transcript). IsTimely r parts clock (map points_of x.calls)) (sym (same r)) (h.timely r);
}

pub transcript_set : (board : Board) (s : ℕ) (seat : Seat) (t : Transcript) → s < length board.seats → seat.transcript ≡ Some t
    → unwrap_or (unwrap_or (slice_get (set board.seats s seat) s) empty_seat).transcript (new_transcript s) ≡ t
transcript_set board s seat t lt is =
    ap (λ (o : Option Seat). unwrap_or (unwrap_or o empty_seat).transcript (new_transcript s)) (get_set_same board.seats s seat lt)
    ∙ ap (λ (o : Option Transcript). unwrap_or o (new_transcript s)) is

pub transcript_else : (board : Board) (s r : ℕ) (seat : Seat) → r ≢ s
    → unwrap_or (unwrap_or (slice_get (set board.seats s seat) r) empty_seat).transcript (new_transcript r) ≡ transcript_at board r
transcript_else board s r seat other =
    ap (λ (o : Option Seat). unwrap_or (unwrap_or o empty_seat).transcript (new_transcript r)) (get_set_other board.seats s r seat other)

module _ (board : Board) (later : List History) (behind : List ClockEvent) (s : ℕ) (seat : Seat) (t : Transcript) (waiting : List Waiting) where
  abbrev moved : Board
  moved = record { config = board.config; parts = later; clock = behind; seats = set board.seats s seat; waiting = waiting }

  pub seat_changed : IsSound board → s < 64 → seat.transcript ≡ Some t → HaveGrown board.parts board.clock later behind → length board.parts ≤ length later → AreHistories board.config later behind
      → IsKept (owners_at later behind) (put (ledger_of (transcript_at board)) s (map points_of t.calls)) → AllLate later
      → ((r : ℕ) → IsTimely r later behind (put (ledger_of (transcript_at board)) s (map points_of t.calls) r)) → ((r : ℕ) → r ≢ s → waiting_of waiting r ≡ waiting_of board.waiting r)
      → IsSession board.config later behind s (waiting_of waiting s) t → WaitAlone waiting → IsSound moved
  seat_changed h lt is grown longer histories kept late timely others here alone =
      let there : s < length board.seats = omega (arith, lt, h.count) in
      let at : transcript_at moved s ≡ t = transcript_set board s seat t there is in
      let rows : (r : ℕ) → ledger_of (transcript_at moved) r ≡ put (ledger_of (transcript_at board)) s (map points_of t.calls) r =
      λ r. elim (same_or_not r s) [
        | inl same ↦
            ap (λ (i : ℕ). ledger_of (transcript_at moved) i) same ∙ ap (λ (x : Transcript). map points_of x.calls) at
            ∙ sym (put_same (ledger_of (transcript_at board)) s (map points_of t.calls) r same)
        | inr other ↦
            ap (λ (x : Transcript). map points_of x.calls) (transcript_else board s r seat other)
            ∙ sym (put_other (ledger_of (transcript_at board)) s (map points_of t.calls) r other)
      ] in
      record {
        count = length-set board.seats s seat ∙ h.count;
        sound = record {
          histories = histories;
          kept = kept_alike (owners_at later behind) (put (ledger_of (transcript_at board)) s (map points_of t.calls)) (ledger_of (transcript_at moved)) rows kept;
          sessions = λ r. elim (same_or_not r s) [
            | inl same ↦
                subst (λ (i : ℕ). IsSession board.config later behind i (waiting_of waiting i) (transcript_at moved i)) (sym same)
                (subst (IsSession board.config later behind s (waiting_of waiting s)) (sym at) here)
            | inr other ↦
                subst (λ (o : Option Waiting). IsSession board.config later behind r o (transcript_at moved r)) (sym (others r other))
                (subst (IsSession board.config later behind r (waiting_of board.waiting r)) (sym (transcript_else board s r seat other))
                (session_on board.config board.parts later board.clock behind grown longer r (waiting_of board.waiting r) (transcript_at board r) (h.sound.sessions r)))
          ];
          alone = alone;
          late = late;
          timely = λ r. subst (IsTimely r later behind) (sym (rows r)) (timely r);
        };
      }

-- ---- the list of those that wait

find_none : {X : Type 0} (p : X → Bool) (xs : List X) → list_any p xs ≡ false → find p xs ≡ None
find_none {X = X} p [] none = refl
find_none {X = X} p (x ∷ xs) none = by_test (p x) (find_none p xs) none
  where
    by_test : (b : Bool) → (list_any p xs ≡ false → find p xs ≡ None) → (b || list_any p xs) ≡ false → cond b (Some x) (find p xs) ≡ None
    by_test true on e = absurd cc
    by_test false on e = on e

pub find_is : {X : Type 0} (p : X → Bool) (xs : List X) (x : X) → find p xs ≡ Some x → p x ≡ true
find_is p [] x e = absurd cc
find_is p (y ∷ xs) x e = by_test (p y) refl (find_is p xs x) e
  where
    by_test : (b : Bool) → p y ≡ b → (find p xs ≡ Some x → p x ≡ true) → cond b (Some y) (find p xs) ≡ Some x → p x ≡ true
    by_test true is on f = ap p (sym (some_is y x f)) ∙ is
    by_test false is on f = on f

-- nothing waits of a session that can act
pub none_waits : (waiting : List Waiting) (s : ℕ) → list_any (λ w. w.session == s) waiting ≡ false → waiting_of waiting s ≡ None
none_waits waiting s none = find_none (λ (w : Waiting). w.session == s) waiting none

one_waits : (w : Waiting) (s : ℕ) → w.session ≡ s → waiting_of (w ∷ []) s ≡ Some w
one_waits w s is = ap (λ (b : Bool). cond b (Some w) None) (eq-eqb w.session s is)

-- one more waits, of a session of which none did
pub waits_more : (waiting : List Waiting) (w : Waiting) → waiting_of waiting w.session ≡ None → waiting_of (waiting ++ w ∷ []) w.session ≡ Some w
waits_more waiting w none =
    find-append (λ (x : Waiting). x.session == w.session) waiting (w ∷ []) ∙ ap (λ (o : Option Waiting). option_or o (waiting_of (w ∷ []) w.session)) none ∙ one_waits w w.session refl

pub waits_else : (waiting : List Waiting) (w : Waiting) (r : ℕ) → r ≢ w.session → waiting_of (waiting ++ w ∷ []) r ≡ waiting_of waiting r
waits_else waiting w r other =
    let nobody : waiting_of (w ∷ []) r ≡ None = ap (λ (b : Bool). cond b (Some w) None) (ne_eqb w.session r (λ e. other (sym e))) in
    find-append (λ (x : Waiting). x.session == r) waiting (w ∷ []) ∙ ap (option_or (waiting_of waiting r)) nobody ∙ or_none (waiting_of waiting r)
  where
    or_none : (o : Option Waiting) → option_or o None ≡ o
    or_none None = refl
    or_none (Some x) = refl

pub alone_more : (waiting : List Waiting) (w : Waiting) → waiting_of waiting w.session ≡ None → WaitAlone waiting → WaitAlone (waiting ++ w ∷ [])
alone_more waiting w none alone i x e =
    elim (push_get waiting w x i e) [
      | inl front ↦
          find-append (λ (y : Waiting). y.session == x.session) waiting (w ∷ []) ∙ ap (λ (o : Option Waiting). option_or o (waiting_of (w ∷ []) x.session)) (alone i x front)
      | inr last ↦ subst (λ (y : Waiting). waiting_of (waiting ++ w ∷ []) y.session ≡ Some y) (sym last.1) (waits_more waiting w none)
    ]

-- those of the other sessions
abbrev pub without : List Waiting → ℕ → List Waiting
without waiting s = filter (λ other. not (other.session == s)) waiting

pub waits_no_more : (waiting : List Waiting) (s : ℕ) → waiting_of (without waiting s) s ≡ None
waits_no_more [] s = refl
waits_no_more (w ∷ waiting) s = by_test (w.session == s) refl (waits_no_more waiting s)
  where
    by_test : (b : Bool) → (w.session == s) ≡ b → waiting_of (without waiting s) s ≡ None → waiting_of (cond (not b) (w ∷ without waiting s) (without waiting s)) s ≡ None
    by_test true is rest = rest
    by_test false is rest = ap (λ (b : Bool). cond b (Some w) (waiting_of (without waiting s) s)) is ∙ rest

pub waits_still : (waiting : List Waiting) (s r : ℕ) → r ≢ s → waiting_of (without waiting s) r ≡ waiting_of waiting r
waits_still [] s r other = refl
waits_still (w ∷ waiting) s r other = by_test (w.session == s) refl (waits_still waiting s r other)
  where
    by_test : (b : Bool) → (w.session == s) ≡ b → waiting_of (without waiting s) r ≡ waiting_of waiting r → waiting_of (cond (not b) (w ∷ without waiting s) (without waiting s)) r ≡ waiting_of (w ∷ waiting) r
    by_test true is rest =
        let no : eqb w.session r ≡ false = ne_eqb w.session r (λ e. other (sym e ∙ eqb-true w.session s is)) in
        rest ∙ sym (ap (λ (b : Bool). cond b (Some w) (waiting_of waiting r)) no)
    by_test false is rest = ap (λ (o : Option Waiting). cond (w.session == r) (Some w) o) rest

without_get : (waiting : List Waiting) (s i : ℕ) (x : Waiting) → slice_get (without waiting s) i ≡ Some x → (j : ℕ) × (slice_get waiting j ≡ Some x) × (x.session ≢ s)
without_get [] s i x e = absurd cc
without_get (w ∷ waiting) s i x e = by_test (w.session == s) refl (λ k. without_get waiting s k x) i e
  where
    by_test : (b : Bool) → (w.session == s) ≡ b → ((k : ℕ) → slice_get (without waiting s) k ≡ Some x → (j : ℕ) × (slice_get waiting j ≡ Some x) × (x.session ≢ s)) → (k : ℕ) → slice_get (cond (not b) (w ∷ without waiting s) (without waiting s)) k ≡ Some x → (j : ℕ) × (slice_get (w ∷ waiting) j ≡ Some x) × (x.session ≢ s)
    by_test true is on k f = let found = on k f in (suc found.0, found.1, found.2)
    by_test false is on zero f = (
      zero,
      f,
      λ same.
          let yes : (w.session == s) ≡ true = ap (λ (y : Waiting). y.session == s) (some_is w x f) ∙ eq-eqb x.session s same in
          absurd (cc (yes, is)),
    )
    by_test false is on (suc k) f = let found = on k f in (suc found.0, found.1, found.2)

pub alone_still : (waiting : List Waiting) (s : ℕ) → WaitAlone waiting → WaitAlone (without waiting s)
alone_still waiting s alone i x e =
    let found = without_get waiting s i x e in
    waits_still waiting s x.session found.2 ∙ alone found.0 x found.1

-- ---- the last call is completed

pub finished : (finish : List Point) (how : CallHow) (front : List Call) (call : Call) → finish_last finish how (front ++ call ∷ []) ≡ front ++ record call { finish = finish; how = how } ∷ []
finished finish how [] call = refl
finished finish how (x ∷ []) call = refl
finished finish how (x ∷ y ∷ front) call = ap (λ (cs : List Call). x ∷ cs) (finished finish how (y ∷ front) call)

pub nothing_last : (front : List Call) (call : Call) → [] ≡ front ++ call ∷ [] → ⊥
nothing_last [] call e = absurd cc
nothing_last (x ∷ front) call e = absurd cc

-- a session with a call is one of those that there may be
seat_there : (board : Board) (s : ℕ) (front : List Call) (call : Call) → length board.seats ≡ 64 → (transcript_at board s).calls ≡ front ++ call ∷ [] → s < 64
seat_there board s front call count calls =
    elim (cases_lt s 64) [
      | inl lt ↦ lt
      | inr past ↦
          let none : (transcript_at board s).calls ≡ [] =
          ap (λ (o : Option Seat). (unwrap_or (unwrap_or o empty_seat).transcript (new_transcript s)).calls) (slice_get_past board.seats s (omega (arith, past, count))) in
          absurd (nothing_last front call (sym none ∙ calls))
    ]

-- a request that waits is the last call of its session
pub waits_last : (board : Board) (s : ℕ) (w : Waiting) → IsSound board → waiting_of board.waiting s ≡ Some w → WaitsLast board.config board.parts board.clock s w (transcript_at board s)
waits_last board s w h found = subst (λ (o : Option Waiting). Stand board.config board.parts board.clock s o (transcript_at board s)) found (h.sound.sessions s).stand

-- which is one of those that there may be
pub waits_there : (board : Board) (s : ℕ) (w : Waiting) → IsSound board → waiting_of board.waiting s ≡ Some w → s < 64
waits_there board s w h found = let last = waits_last board s w h found in seat_there board s last.front last.call h.count last.calls
