-- The account of a sound board is lawful, where nothing that waits is answerable.
use Rattle.std.proofs.Common.{◌≡◌, ℕ, zero, suc, ◌+◌, ◌<◌, ◌≤◌, ◌⊎◌, Bool, false, cond, eqb, List, [], ◌∷◌, ◌++◌, length, map, take, Contains, ℤ, Option, Some, None, unwrap_or, refl, sym, ap, subst, ◌∙◌, arith, inl, inr, append-nil}
use Rattle.std.proofs.lemmas.Bool.{ne_eqb, le-leb}
use Rattle.std.proofs.lemmas.List.Sums.{sum_by-cons}
use Rattle.std.proofs.lemmas.Option.{slice_get-map}
use Rattle.std.specs.Prelude.{slice_get, count_by, option_to_list, nat_le}
use Rattle.std.specs.List.{AllByRecursion, cons_option, flat_map}
use Rattle.std.specs.List.Sorted.{IsStrictlyIncreasing}
use Rattle.std.specs.Option.{option_map}
use Rattle.partlog.specs.declared.event.PartEvent.{PartEvent}
use Rattle.partlog.specs.declared.event.PartEvent.TheVariants.{Follow, Shrink}
use Rattle.partlog.specs.History.{History}
use Rattle.partlog.specs.Moment.{moment_of}
use Rattle.partlog.specs.State.{PartState, state_of}
use Rattle.audit.specs.declared.account.Account.{Account}
use Rattle.audit.specs.declared.account.PartAccount.{PartAccount}
use Rattle.audit.specs.declared.account.Transcript.{Transcript}
use Rattle.audit.specs.declared.account.Call.{Call}
use Rattle.audit.specs.declared.account.CallHow.{CallHow}
use Rattle.audit.specs.declared.account.CallHow.TheVariants.{Quiet, AtOnce, Satisfied, Expired, Parked, Cut}
use Rattle.audit.specs.declared.account.SessionEnd.{SessionEnd}
use Rattle.audit.specs.declared.account.Point.{Point}
use Rattle.audit.specs.Histories.{HadLagged, Owner, clock_owner_of, event_at, event_in, owners_of, owners_in, points_of, calls_in, calls_of, call_of, all_calls, final_in, no_state, ticks_of}
use Rattle.audit.specs.LawfulCall.{Step, IsLawfulCall, Completes, final_of, part_in, shown_at_last, operation_in, operation_parts}
use Rattle.audit.specs.IsLawful.{IsLawful, IsWholeLog, places_in, is_point, is_won_by, is_won_as, EndsAs, EndWell, FollowOn}
use Rattle.kbytes.proofs.Laws.{some_is, all_append}
use Rattle.kanswer.specs.Waiting.{Shown, values_of}
use Rattle.opcond.specs.Operation.{Operation}
use Rattle.opcond.specs.Tally.{IsAnswerable, tally}
use Rattle.audit.specs.Histories.{part_account}
use Rattle.audit.specs.broker.Board.{Board, Seat, Waiting, empty_seat, history_at, new_transcript, seat_at, transcript_at, put_before, passes_of, account_of}
use Rattle.audit.specs.broker.Completing.{present, is_answerable_now, is_satisfied_now, is_overdue_now}
use Rattle.audit.specs.broker.GoesOn.{the_owner, AllWhole, GoesOn}
use Rattle.audit.specs.broker.Kept.{owners_here, owners_at}
use Rattle.audit.specs.broker.Sound.{AllBelow}
use Rattle.audit.proofs.broker.Cases.{neither}
use Rattle.audit.proofs.broker.Growth.{longer_self}
use Rattle.audit.proofs.broker.Calls.{IsOver}
use Rattle.audit.proofs.broker.Accepting.{shown_in}
use Rattle.audit.proofs.broker.Boards.{IsDone, IsWaiting, AreDone, Stand, IsSound, waiting_of}
use Rattle.audit.proofs.broker.Ledger.{push_get}
use Rattle.audit.proofs.broker.Timely.{events_at, events_of_part}

-- ---- lists

pub all_from_get : {X : Type 0} (P : X → Type 0) (xs : List X) → ((i : ℕ) (x : X) → slice_get xs i ≡ Some x → P x) → AllByRecursion P xs
all_from_get P [] each = tt
all_from_get P (x ∷ xs) each = (each 0 x refl, all_from_get P xs (λ i y e. each (suc i) y e))

pub all_get : {X : Type 0} (P : X → Type 0) (xs : List X) (i : ℕ) (x : X) → AllByRecursion P xs → slice_get xs i ≡ Some x → P x
all_get P [] i x all e = absurd cc
all_get P (y ∷ xs) zero x all e = subst P (some_is y x e) all.0
all_get P (y ∷ xs) (suc i) x all e = all_get P xs i x all.1 e

all_flat : {X Y : Type 0} (P : Y → Type 0) (f : X → List Y) (xs : List X) → AllByRecursion (λ x. AllByRecursion P (f x)) xs → AllByRecursion P (flat_map f xs)
all_flat P f [] all = tt
all_flat P f (x ∷ xs) all = all_append P (f x) (flat_map f xs) all.0 (all_flat P f xs all.1)

pub get_map : {X Y : Type 0} (f : X → Y) (xs : List X) (i : ℕ) (y : Y) → slice_get (map f xs) i ≡ Some y → (x : X) × (slice_get xs i ≡ Some x) × (f x ≡ y)
get_map f [] i y e = absurd cc
get_map f (x ∷ xs) zero y e = (x, refl, some_is (f x) y e)
get_map f (x ∷ xs) (suc i) y e = get_map f xs i y e

pub map_get : {X Y : Type 0} (f : X → Y) (xs : List X) (i : ℕ) (x : X) → slice_get xs i ≡ Some x → slice_get (map f xs) i ≡ Some (f x)
map_get {Y = Y} f xs i x e = slice_get-map f xs i ∙ ap (option_map f) e

pub flat_points : (calls : List Call) → flat_map (λ (points : List Point). points) (map points_of calls) ≡ flat_map points_of calls
flat_points [] = refl
flat_points (call ∷ calls) = ap (λ (points : List Point). points_of call ++ points) (flat_points calls)

-- ---- the passes of a board

put_first : (ts : List Transcript) (ps : List (List Transcript)) → unwrap_or (slice_get (put_before ts ps) 0) [] ≡ ts
put_first [] [] = refl
put_first [] (p ∷ ps) = refl
put_first (t ∷ ts) ps = refl

put_later : (ts : List Transcript) (ps : List (List Transcript)) (s : ℕ) → unwrap_or (slice_get (put_before ts ps) (suc s)) [] ≡ unwrap_or (slice_get ps s) []
put_later [] [] s = refl
put_later [] (p ∷ ps) s = refl
put_later (t ∷ ts) ps s = refl

pub passes_get : (seats : List Seat) (s : ℕ) → unwrap_or (slice_get (passes_of seats) s) [] ≡ option_to_list (unwrap_or (slice_get seats s) empty_seat).transcript
passes_get [] s = refl
passes_get (seat ∷ seats) zero = put_first (option_to_list seat.transcript) (passes_of seats)
passes_get (seat ∷ seats) (suc s) = put_later (option_to_list seat.transcript) (passes_of seats) s ∙ passes_get seats s

calls_listed : (o : Option Transcript) (s : ℕ) → calls_in (option_to_list o) ≡ (unwrap_or o (new_transcript s)).calls
calls_listed None s = refl
calls_listed (Some t) s = append-nil t.calls

pub calls_at : (board : Board) (s : ℕ) → calls_of (account_of board) s ≡ (transcript_at board s).calls
calls_at board s = ap calls_in (passes_get board.seats s) ∙ calls_listed (unwrap_or (slice_get board.seats s) empty_seat).transcript s

-- what holds of each session's transcript holds of each pass
pub each_pass : (board : Board) (P : ℕ → Transcript → Type 0) (Q : List Transcript → Type 0) → Q [] → ((s : ℕ) (t : Transcript) → P s t → Q (t ∷ []))
    → ((s : ℕ) → P s (transcript_at board s)) → AllByRecursion Q (passes_of board.seats)
each_pass board P Q none one each = all_from_get Q (passes_of board.seats) (λ s x e.
    let is : x ≡ option_to_list (seat_at board s).transcript = ap (λ (o : Option (List Transcript)). unwrap_or o []) (sym e) ∙ passes_get board.seats s in
    subst Q (sym is) (listed s (seat_at board s).transcript (each s)))
  where
    listed : (s : ℕ) (o : Option Transcript) → P s (unwrap_or o (new_transcript s)) → Q (option_to_list o)
    listed s None p = none
    listed s (Some t) p = one s t p

-- ---- the parts that are read off histories

pub owned_here : (parts : List History) (p : ℕ) → owners_in (slice_get (map part_account parts) p) ≡ owners_here (slice_get parts p)
owned_here [] p = refl
owned_here (k ∷ parts) zero = refl
owned_here (k ∷ parts) (suc p) = owned_here parts p

pub followers_map : (parts : List History) → map (λ (part : PartAccount). part.followers) (map part_account parts) ≡ map (λ (k : History). k.followers) parts
followers_map [] = refl
followers_map (k ∷ parts) = ap (λ (ns : List ℕ). k.followers ∷ ns) (followers_map parts)

pub whole_logs : (parts : List History) → AllWhole parts → AllByRecursion IsWholeLog (map part_account parts)
whole_logs [] whole = tt
whole_logs (k ∷ parts) whole = (sym (whole 0 k refl), whole_logs parts (λ p x e. whole (suc p) x e))

last_state : (parts : List History) (p : ℕ) → p < length parts → final_in (slice_get (map part_account parts) p) ≡ state_of (history_at parts p)
last_state [] p lt = absurd (omega (arith, lt))
last_state (k ∷ parts) zero lt = refl
last_state (k ∷ parts) (suc p) lt = last_state parts p (omega (arith, lt))

-- what the account shows at last of partitions that are there
pub last_shown : (account : Account) (parts : List History) → account.parts ≡ map part_account parts → (steps : List Step) → AllBelow (length parts) (operation_parts steps)
    → shown_at_last account steps ≡ shown_in parts steps
last_shown account parts is [] within = refl
last_shown account parts is (step ∷ steps) within = by_part (part_in step.result) refl (last_shown account parts is steps) within
  where
    as_shown : PartState → List Shown → List Shown
    as_shown state shown = record { result = step.result; state = state } ∷ shown

    by_part : (o : Option ℕ) → part_in step.result ≡ o → (AllBelow (length parts) (operation_parts steps) → shown_at_last account steps ≡ shown_in parts steps)
        → AllBelow (length parts) (cons_option o (operation_parts steps)) → as_shown (final_of account (part_in step.result)) (shown_at_last account steps) ≡ as_shown (present parts (part_in step.result)) (shown_in parts steps)
    by_part None same rest within =
        ap (λ (o : Option ℕ). as_shown (final_of account o) (shown_at_last account steps)) same ∙ ap (as_shown no_state) (rest within)
        ∙ sym (ap (λ (o : Option ℕ). as_shown (present parts o) (shown_in parts steps)) same)
    by_part (Some p) same rest within =
        let here : final_of account (Some p) ≡ present parts (Some p) = ap (λ (ps : List PartAccount). final_in (slice_get ps p)) is ∙ last_state parts p within.0 in
        ap (λ (o : Option ℕ). as_shown (final_of account o) (shown_at_last account steps)) same ∙ ap (λ (state : PartState). as_shown state (shown_at_last account steps)) here
        ∙ ap (as_shown (present parts (Some p))) (rest within.1) ∙ sym (ap (λ (o : Option ℕ). as_shown (present parts o) (shown_in parts steps)) same)

-- ---- how calls came to their ends

-- over, or parked as the last of its session
abbrev pub IsUncut : Call → Type 0
IsUncut call = IsOver call.how ⊎ (call.how ≡ Parked)

over_ends : (how : CallHow) (later : List Call) (end : Option SessionEnd) → IsOver how → EndsAs how later end
over_ends Quiet later end over = tt
over_ends AtOnce later end over = tt
over_ends (Satisfied by) later end over = tt
over_ends (Expired by) later end over = tt
over_ends Parked later end over = absurd over
over_ends (Cut won) later end over = absurd over

not_won : (winner : ℕ) (how : CallHow) → IsOver how ⊎ (how ≡ Parked) → is_won_as (suc winner) how ≡ false
not_won winner Quiet h = refl
not_won winner AtOnce h = refl
not_won winner (Satisfied by) (inl is) = ne_eqb by (suc winner) (λ e. omega (arith, e, is))
not_won winner (Satisfied by) (inr e) = absurd cc
not_won winner (Expired by) (inl is) = ne_eqb by (suc winner) (λ e. omega (arith, e, is))
not_won winner (Expired by) (inr e) = absurd cc
not_won winner Parked h = refl
not_won winner (Cut won) (inl over) = absurd over
not_won winner (Cut won) (inr e) = absurd cc

none_won : (winner : ℕ) (calls : List Call) → AllByRecursion IsUncut calls → count_by (is_won_by (suc winner)) calls ≡ 0
none_won winner [] all = refl
none_won winner (call ∷ calls) all =
    sum_by-cons (λ c. cond (is_won_by (suc winner) c) 1 0) call calls ∙ ap (λ (b : Bool). cond b 1 0 + count_by (is_won_by (suc winner)) calls) (not_won winner call.how all.0)
    ∙ omega (arith, none_won winner calls all.1)

-- nothing that waits of this session is answerable
abbrev pub Still : Board → ℕ → Type 0
Still board s = (w : Waiting) → waiting_of board.waiting s ≡ Some w → is_answerable_now board w ≡ false

-- what a session's calls show of its end
pub record EndsRight (t : Transcript) : Type 0 where
  pub first : t.first ≡ 0
  pub well : EndWell t.calls t.end
  pub uncut : AllByRecursion IsUncut t.calls

module _ (board : Board) (h : IsSound board) where
  done_well : (calls : List Call) (end : Option SessionEnd) → AreDone board.config board.parts board.clock calls → EndWell calls end
  done_well [] end done = tt
  done_well (call ∷ calls) end done = (over_ends call.how calls end done.0.over, done_well calls end done.1)

  parked_well : (front : List Call) (call : Call) (end : Option SessionEnd) → AreDone board.config board.parts board.clock front → call.how ≡ Parked → end ≡ None → EndWell (front ++ call ∷ []) end
  parked_well [] call end done parked going = (subst (λ (how : CallHow). EndsAs how [] end) (sym parked) (refl, going), tt)
  parked_well (c ∷ front) call end done parked going = (over_ends c.how (front ++ call ∷ []) end done.0.over, parked_well front call end done.1 parked going)

  done_uncut : (calls : List Call) → AreDone board.config board.parts board.clock calls → AllByRecursion IsUncut calls
  done_uncut [] done = tt
  done_uncut (call ∷ calls) done = (inl done.0.over, done_uncut calls done.1)

  ends_right : (s : ℕ) (o : Option Waiting) (t : Transcript) → t.first ≡ 0 → Stand board.config board.parts board.clock s o t → EndsRight t
  ends_right s None t first stand = record { first = first; well = done_well t.calls t.end stand; uncut = done_uncut t.calls stand }
  ends_right s (Some w) t first stand = record {
    first = first;
    well = subst (λ (cs : List Call). EndWell cs t.end) (sym stand.calls) (parked_well stand.front stand.call t.end stand.done stand.waits.how stand.going);
    uncut = subst (AllByRecursion IsUncut) (sym stand.calls) (all_append IsUncut stand.front (stand.call ∷ []) (done_uncut stand.front stand.done) (inr stand.waits.how, tt));
  }

  pub session_ends : (s : ℕ) → EndsRight (transcript_at board s)
  session_ends s = ends_right s (waiting_of board.waiting s) (transcript_at board s) (h.sound.sessions s).first (h.sound.sessions s).stand

  follow_on : AllByRecursion (FollowOn 0) (passes_of board.seats)
  follow_on = each_pass board (λ s t. EndsRight t) (FollowOn 0) tt (λ s t e. (e.first, e.well, tt)) session_ends

  pub all_uncut : AllByRecursion IsUncut (all_calls (account_of board))
  all_uncut = all_flat IsUncut calls_in (passes_of board.seats)
      (each_pass board (λ s t. EndsRight t) (λ pass. AllByRecursion IsUncut (calls_in pass)) tt (λ s t e. all_append IsUncut t.calls [] e.uncut tt) session_ends)

  the_wins : (winner : ℕ) → unwrap_or (slice_get (account_of board).wins winner) 0 ≡ count_by (is_won_by winner) (all_calls (account_of board))
  the_wins zero = refl
  the_wins (suc winner) = sym (none_won winner (all_calls (account_of board)) all_uncut)

  -- ---- histories

  pub parts_get : (p : ℕ) (k : History) → slice_get board.parts p ≡ Some k → slice_get (account_of board).parts p ≡ Some (part_account k)
  parts_get p k e = map_get part_account board.parts p k e

  -- an account goes on from its own histories
  pub account_goes : GoesOn board.config board.parts board.clock (account_of board)
  account_goes = record {
    same = refl;
    follows = λ p k e. (part_account k, parts_get p k e, longer_self k);
    more = [];
    events = sym (append-nil board.clock);
  }

  owners_same : (p : ℕ) → owners_of (account_of board) p ≡ owners_at board.parts board.clock p
  owners_same p = ap (λ (xs : List (Option Owner)). cond (eqb p 64) (map clock_owner_of board.clock) xs) (owned_here board.parts p)

  call_there : (by seq : ℕ) (call : Call) → slice_get (transcript_at board by).calls seq ≡ Some call → call_of (account_of board) by seq ≡ Some call
  call_there by seq call e = ap (λ (cs : List Call). slice_get cs seq) (calls_at board by) ∙ e

  call_from : (by seq : ℕ) (call : Call) → call_of (account_of board) by seq ≡ Some call → slice_get (transcript_at board by).calls seq ≡ Some call
  call_from by seq call e = sym (ap (λ (cs : List Call). slice_get cs seq) (calls_at board by)) ∙ e

  -- every entry is one of its call's
  entry_left : (part place by seq : ℕ) → slice_get (owners_of (account_of board) part) place ≡ Some (the_owner by seq)
      → (call : Call) × (call_of (account_of board) by seq ≡ Some call) × (count_by (is_point part place) (points_of call) ≡ 1)
  entry_left part place by seq e =
      let found = h.sound.kept.left part place by seq (sym (ap (λ (xs : List (Option Owner)). slice_get xs place) (owners_same part)) ∙ e) in
      let call = get_map points_of (transcript_at board by).calls seq found.0 found.1 in
      (call.0, call_there by seq call.0 call.1, ap (count_by (is_point part place)) call.2 ∙ found.2)

  all_same : (by seq : ℕ) (points : List Point) → AllByRecursion (λ point. slice_get (owners_at board.parts board.clock point.part) point.place ≡ Some (the_owner by seq)) points
      → AllByRecursion (λ point. slice_get (owners_of (account_of board) point.part) point.place ≡ Some (the_owner by seq)) points
  all_same by seq [] all = tt
  all_same by seq (point ∷ points) all = (ap (λ (xs : List (Option Owner)). slice_get xs point.place) (owners_same point.part) ∙ all.0, all_same by seq points all.1)

  points_owned : (pass seq : ℕ) (call : Call) → call_of (account_of board) pass seq ≡ Some call
      → AllByRecursion (λ point. slice_get (owners_of (account_of board) point.part) point.place ≡ Some (the_owner pass seq)) (points_of call)
  points_owned pass seq call e =
      all_same pass seq (points_of call) (h.sound.kept.points pass seq (points_of call) (map_get points_of (transcript_at board pass).calls seq call (call_from pass seq call e)))

  -- an entry of the account is one of the histories
  event_here : (part place : ℕ) (event : PartEvent) → event_at (account_of board) (record { part = part; place = place }) ≡ Some event
      → (k : History) × (slice_get board.parts part ≡ Some k) × (slice_get k.events place ≡ Some event)
  event_here part place event e = by_parts board.parts part e
    where
      by_parts : (parts : List History) (p : ℕ) → event_in (slice_get (map part_account parts) p) place ≡ Some event → (k : History) × (slice_get parts p ≡ Some k) × (slice_get k.events place ≡ Some event)
      by_parts [] p at = absurd cc
      by_parts (k ∷ parts) zero at = (k, refl, at)
      by_parts (k ∷ parts) (suc p) at = by_parts parts p at

  entry_here : (part place : ℕ) (event : PartEvent) → event_at (account_of board) (record { part = part; place = place }) ≡ Some event → slice_get (events_at board.parts part) place ≡ Some event
  entry_here part place event e =
      let found = event_here part place event e in
      ap (λ (es : List PartEvent). slice_get es place) (events_of_part board.parts part found.0 found.1) ∙ found.2

  -- whoever was taken out lagged then, and the moment was told
  left_late : (part place by t : ℕ) (replica : ℤ) → event_at (account_of board) (record { part = part; place = place }) ≡ Some (Shrink by replica t)
      → HadLagged (slice_get (account_of board).parts part) place t replica × Contains (ticks_of board.clock) t
  left_late part place by t replica e =
      let found = event_here part place (Shrink by replica t) e in (
        subst (λ (o : Option PartAccount). HadLagged o place t replica) (sym (parts_get part found.0 found.1)) (h.sound.late part found.0 found.1 place by t replica found.2),
        (h.sound.timely by).shrinks part place t replica (entry_here part place (Shrink by replica t) e),
      )

  the_order : (pass part : ℕ) → IsStrictlyIncreasing (places_in part (flat_map points_of (calls_of (account_of board) pass)))
  the_order pass part =
      subst (λ (cs : List Call). IsStrictlyIncreasing (places_in part (flat_map points_of cs))) (sym (calls_at board pass))
      (subst (λ (points : List Point). IsStrictlyIncreasing (places_in part points)) (flat_points (transcript_at board pass).calls) (h.sound.kept.order pass part))

  -- ---- calls

  le_and_not : (a b : ℕ) → a ≤ b → nat_le a b ≡ false → ⊥
  le_and_not a b le not_now = absurd (cc (le-leb a b le, not_now))

  not_answerable : (w : Waiting) → is_answerable_now board w ≡ false → IsAnswerable w.operation (values_of w.request.ask (shown_in board.parts w.steps)) (moment_of board.clock) → ⊥
  not_answerable w not_now (inl enough) =
      le_and_not w.operation.least (tally w.operation.needs (values_of w.request.ask (shown_in board.parts w.steps))) enough (neither (is_satisfied_now board w) (is_overdue_now board w) not_now).0
  not_answerable w not_now (inr late) = le_and_not w.operation.deadline (moment_of board.clock) late (neither (is_satisfied_now board w) (is_overdue_now board w) not_now).1

  parked_lawful : (w : Waiting) (call : Call) → IsWaiting board.config board.parts board.clock w call → is_answerable_now board w ≡ false → IsLawfulCall (account_of board) call
  parked_lawful w call waits not_now =
      let account = account_of board in
      let d = waits.delayed account account_goes in
      let still : IsAnswerable (operation_in account w.request w.steps d.looks) (values_of w.request.ask (shown_at_last account w.steps)) (moment_of account.clock) → ⊥ =
      λ answerable. not_answerable w not_now (subst (λ (ss : List Shown). IsAnswerable w.operation (values_of w.request.ask ss) (moment_of board.clock)) (last_shown account board.parts refl w.steps waits.within)
      (subst (λ (op : Operation). IsAnswerable op (values_of w.request.ask (shown_at_last account w.steps)) (moment_of board.clock)) d.operation answerable)) in
      inl (record {
        whole = record { request = w.request; steps = w.steps; looks = d.looks; accepted = d.accepted; entries = d.entries };
        completed = subst (λ (how : CallHow). Completes account w.request w.steps d.looks call.finish how) (sym waits.how) (d.delayed, waits.unfinished, still);
      })

  stands_lawful : (s q : ℕ) (call : Call) (o : Option Waiting) → ((w : Waiting) → o ≡ Some w → is_answerable_now board w ≡ false) → Stand board.config board.parts board.clock s o (transcript_at board s)
      → slice_get (transcript_at board s).calls q ≡ Some call → IsLawfulCall (account_of board) call
  stands_lawful s q call None rests stand e = inl ((all_get (IsDone board.config board.parts board.clock) (transcript_at board s).calls q call stand e).whole (account_of board) account_goes)
  stands_lawful s q call (Some w) rests stand e =
      elim (push_get stand.front stand.call call q (sym (ap (λ (cs : List Call). slice_get cs q) stand.calls) ∙ e)) [
        | inl front ↦ inl ((all_get (IsDone board.config board.parts board.clock) stand.front q call stand.done front).whole (account_of board) account_goes)
        | inr last ↦ subst (IsLawfulCall (account_of board)) (sym last.1) (parked_lawful w stand.call stand.waits (rests w refl))
      ]

  pub board_lawful : ((s : ℕ) → Still board s) → IsLawful (account_of board)
  board_lawful rests = record {
    entries = record {
      left = entry_left;
      points = points_owned;
      ticks = h.sound.histories.ticks;
      shrinks = left_late;
      follows = λ part place by seq offset t replica e. (h.sound.timely by).told part place seq offset t replica (entry_here part place (Follow by seq replica offset t) e);
      earlier = λ part place by seq offset t replica e before call lt there.
          (h.sound.timely by).late part place seq offset t replica (entry_here part place (Follow by seq replica offset t) e) before (points_of call) lt
          (map_get points_of (transcript_at board by).calls before call (call_from by before call there));
    };
    order = the_order;
    logs = record { followers = followers_map board.parts ∙ h.sound.histories.followers; whole = whole_logs board.parts h.sound.histories.whole };
    calls = λ pass seq call e. stands_lawful pass seq call (waiting_of board.waiting pass) (rests pass) (h.sound.sessions pass).stand (call_from pass seq call e);
    wins = the_wins;
    ends = follow_on;
  }
