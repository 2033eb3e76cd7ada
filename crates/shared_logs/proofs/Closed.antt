-- Logs that were closed.
use Rattle.std.proofs.Common.{◌≡◌, ◌∙◌, ℕ, ◌+◌, ◌*◌, ◌<◌, ◌≤◌, Bool, true, false, cond, eqb, List, [], ◌∷◌, ◌++◌, Option, Some, None, unwrap_or, append-nil, length, length-append, map, ap, refl, subst, sym, arith}
use Rattle.std.specs.Prelude.{◌↔◌, All, Any, Contains, count_by, slice_get, slice_index, sum_by, ◌==◌}
use Rattle.std.specs.List.Sorted.{IsStrictlyIncreasing}
use Rattle.std.proofs.lemmas.List.{length-map}
use Rattle.std.proofs.lemmas.List.Elements.{All-get_or, All-head, All-nil, All-push, All-tail}
use Rattle.std.proofs.lemmas.List.Sums.{sum_by-cons}
use Rattle.std.proofs.lemmas.Option.{get_or_from_slice_get, slice_get_within}
use Rattle.partlog.specs.declared.clock_event.ClockEvent.{ClockEvent}
use Rattle.partlog.specs.declared.event.PartEvent.{PartEvent}
use Rattle.partlog.specs.History.{History}
use Rattle.partlog.specs.Kept.{IsKept}
use Rattle.partlog.specs.Lagging.{LeftLate}
use Rattle.partlog.specs.Moment.{moment_of}
use Rattle.audit.specs.Histories.{clock_owner_of, ticks_of}
use Rattle.audit.specs.broker.Board.{empty_history}
use Rattle.audit.specs.broker.GoesOn.{AllWhole, the_owner}
use Rattle.audit.specs.broker.Kept.{owners_here}
use Rattle.audit.specs.broker.Timely.{events_at, pass_of}
use Rattle.turn_lock.specs.declared.lock.TurnLock.{TurnLock}
use Rattle.turn_lock.specs.declared.pass.TurnPass.{TurnPass}
use Rattle.turn_lock.specs.Locks.{known}
use Rattle.turn_lock.specs.OfPass.{of_pass}
use Rattle.shared_logs.specs.declared.entries.ClockEntry.{ClockEntry}
use Rattle.shared_logs.specs.declared.entries.LogEntry.{LogEntry}
use Rattle.shared_logs.specs.Desks.{MomentView, PartView}
use Rattle.shared_logs.specs.Entries.{clock_by, clock_entries, entry_by, log_entries}
use Rattle.shared_logs.specs.Histories.{events_of}
use Rattle.shared_logs.proofs.Beside.{clock_events}
use Rattle.shared_logs.proofs.Owners.{clock_named, entry_at, named}
use Rattle.room_core.specs.declared.parts.Stage.{Stage}
use Rattle.room_core.specs.Described.{operation_of}
use Rattle.room_table.specs.Seats.{CallerView, TableView, caller_now}
use Rattle.purgatory.specs.Ends.{IsStill, StillView, seats_of}
use Rattle.purgatory.specs.Rooms.{LockView, PassView, RoomView, winners}
use Rattle.shared_logs.specs.declared.hands.Hand.{Hand}
use Rattle.shared_logs.specs.Apart.{AreJoined, IsJoined, gathered, joined}
use Rattle.shared_logs.specs.Closing.{AreClosed, IsUnanswerable, taken_from}
use Rattle.shared_logs.specs.Coming.{OthersCame}
use Rattle.shared_logs.specs.Gone.{AreAllOut, AreTold, HasGone, HaveGone, IsTold}
use Rattle.shared_logs.specs.Locked.{lock_of, part_lock, seen_part, shared_view}
use Rattle.shared_logs.specs.Shared.{LogPassView, SharedView}
use Rattle.shared_logs.proofs.Came.{others_told, told_count}
use Rattle.shared_logs.proofs.Gathered.{ByPairs, gathered_count, hand_sum, of_pairs, pairs_of, seat_sum}
use Rattle.shared_logs.proofs.Gone.{logs_count}
use Rattle.shared_logs.proofs.Added.{added, latest}
use Rattle.shared_logs.proofs.Unmet.{unmet}
use Rattle.shared_logs.proofs.Wins.{none_taken, wins_taken}

none_left : {A : Type 0} (xs ys zs : List A) → xs ≡ ys ++ zs → length xs ≡ length ys → xs ≡ ys
none_left xs ys [] e size = e ∙ append-nil ys
none_left xs ys (z ∷ zs) e size =
    let whole = ap (λ l. length l) e in
    let both = length-append ys (z ∷ zs) in
    absurd (omega (arith, whole, both, size))

map_twice : {A B C : Type 0} (f : A → B) (g : B → C) (xs : List A) → map g (map f xs) ≡ map (λ x. g (f x)) xs
map_twice f g [] = refl
map_twice f g (x ∷ xs) = ap (λ ys. g (f x) ∷ ys) (map_twice f g xs)

seats_passes : (P : CallerView → Type 0) (seats : List PassView) (hands : List Hand) → AreJoined seats hands → All P (seats_of seats) → All (λ (pass : LogPassView). P pass.seat) (gathered seats hands)
seats_passes P [] [] j every = All-nil _
seats_passes P [] (hand ∷ hands) j every = absurd j
seats_passes P (seat ∷ seats) [] j every = absurd j
seats_passes P (seat ∷ seats) (hand ∷ hands) j every =
    All-push (λ (pass : LogPassView). P pass.seat) (gathered seats hands) (joined seat hand) (seats_passes P seats hands j.1 (All-tail P seat.seat (seats_of seats) every)) (All-head P seat.seat (seats_of seats) every)

pub sum_of_map : {A B : Type 0} (f : A → B) (g : B → ℕ) (xs : List A) → sum_by g (map f xs) ≡ sum_by (λ x. g (f x)) xs
sum_of_map f g [] = refl
sum_of_map f g (x ∷ xs) = omega (arith, sum_by-cons g (f x) (map f xs), sum_by-cons (λ y. g (f y)) x xs, sum_of_map f g xs)

module _ (room : RoomView) (parts : List (TurnLock PartView LogEntry)) (clock : TurnLock MomentView ClockEntry) (seats : List PassView) (hands : List Hand) (all : AreJoined seats hands)
    (made : All (λ (pass : LogPassView). pass.made ≡ shared_view room parts clock) (gathered seats hands)) (still : StillView) (is_still : IsStill room seats still)
    (logs : List History) (events : List ClockEvent) (numbers : List ℕ) (out : AreAllOut still parts clock hands logs events numbers) (gauges : room.table.shape.gauges ≡ 3 * length parts + 1)
    (as_many : length hands ≡ room.table.shape.passes) where
  abbrev entries : List ClockEntry
  entries = clock_entries events out.clock.tickers

  abbrev IsMade : PassView → Hand → Type 0
  IsMade seat hand = IsJoined seat hand × ((joined seat hand).made ≡ shared_view room parts clock)

  size : length logs ≡ length parts
  size = logs_count logs parts out.followers

  one_came : (seat : PassView) (hand rest : Hand) → IsMade seat hand → HasGone logs hand rest → IsTold clock_by entries hand.clock → OthersCame hand.number (map seen_part hand.parts.items) (events_of (known hand.clock).seen) logs events
  one_came seat hand rest is gone told =
      let items = hand.parts.items in
      let views : map lock_of items ≡ map part_lock parts = ap (λ (v : SharedView). v.parts) is.1 in
      let count : length items ≡ length parts = sym (length-map items lock_of) ∙ ap (λ (l : List LockView). length l) views ∙ length-map parts part_lock in
      let same : items ≡ gone.gone = none_left items gone.gone rest.parts.items gone.parts (count ∙ sym size ∙ told_count logs gone.gone gone.told) in
      let followers : LockView → ℕ = λ l. slice_index l.name 0 in
      let names : map (λ (h : History). h.followers) logs ≡ map (λ (pass : TurnPass PartView LogEntry). slice_index (known pass).name 0) items =
      out.followers ∙ sym (map_twice part_lock followers parts) ∙ ap (map followers) (sym views) ∙ map_twice lock_of followers items in
      others_told hand.number logs items (subst (AreTold logs) (sym same) gone.told) is.0.parts_are out.out.kept names hand.clock is.0.clock_is events out.clock.tickers out.source told

  came_pairs : (ss : List PassView) (hs rs : List Hand) → ByPairs IsMade ss hs → HaveGone logs hs rs → All (λ (hand : Hand). IsTold clock_by entries hand.clock) hs
      → ByPairs (λ seat hand. OthersCame hand.number (map seen_part hand.parts.items) (events_of (known hand.clock).seen) logs events) ss hs
  came_pairs [] [] rs are gone told = tt
  came_pairs [] (h ∷ hs) rs are gone told = absurd are
  came_pairs (s ∷ ss) [] rs are gone told = absurd are
  came_pairs (s ∷ ss) (h ∷ hs) [] are gone told = absurd gone
  came_pairs (s ∷ ss) (h ∷ hs) (r ∷ rs) are gone told =
      let T : Hand → Type 0 = λ hand. IsTold clock_by entries hand.clock in
      (one_came s h r are.0 gone.0 (All-head T h hs told), came_pairs ss hs rs are.1 gone.1 (All-tail T h hs told))

  ticked_pairs : (ss : List PassView) (hs : List Hand) → ByPairs IsMade ss hs → All (λ (hand : Hand). IsTold clock_by entries hand.clock) hs
      → ByPairs (λ seat hand. (of_pass clock_by hand.number entries ≡ (known hand.clock).mine) × IsJoined seat hand) ss hs
  ticked_pairs [] [] are told = tt
  ticked_pairs [] (h ∷ hs) are told = absurd are
  ticked_pairs (s ∷ ss) [] are told = absurd are
  ticked_pairs (s ∷ ss) (h ∷ hs) are told =
      let T : Hand → Type 0 = λ hand. IsTold clock_by entries hand.clock in
      let mine : of_pass clock_by h.number entries ≡ (known h.clock).mine = ap (λ n. of_pass clock_by n entries) (sym are.0.0.clock_is.number_is) ∙ (All-head T h hs told).mine in
      ((mine, are.0.0), ticked_pairs ss hs are.1 (All-tail T h hs told))

  whole : AllWhole logs
  whole p h at =
      let less = slice_get_within logs p h at in
      let K : History → Type 0 = λ x. IsKept x.log x.events in
      (subst K (get_or_from_slice_get logs p h h at) (All-get_or K logs p h less out.out.kept)).whole

  entry_below : {E : Type 0} (by : E → ℕ) (n : ℕ) (es : List E) → All (λ e. by e < n) es → (place : ℕ) (e : E) → slice_get es place ≡ Some e → by e < n
  entry_below by n es every place e at =
      subst (λ x. by x < n) (get_or_from_slice_get es place e e at) (All-get_or (λ x. by x < n) es place e (slice_get_within es place e at) every)

  part_owner : (o : Option History) (part place by seq : ℕ) → slice_get logs part ≡ o → slice_get (owners_here o) place ≡ Some (the_owner by seq) → by < length hands
  part_owner None part place by seq is at = absurd cc
  part_owner (Some h) part place by seq is at =
      let n = named h.events h.log place by seq at in
      let W : History → Type 0 = λ x. All (λ (e : LogEntry). entry_by e < length hands) (log_entries x) in
      let less = slice_get_within logs part h is in
      let every = subst W (get_or_from_slice_get logs part h h is) (All-get_or W logs part h less out.out.whose) in
      subst (λ k. k < length hands) n.2 (entry_below entry_by (length hands) (log_entries h) every place n.0 n.1)

  -- every entry of a partition names a pass that there is
  entry_known : (part place : ℕ) (event : PartEvent) → slice_get (events_at logs part) place ≡ Some event → pass_of event < length hands
  entry_known part place event at = by_case (slice_get logs part) refl at
    where
      by_case : (o : Option History) → slice_get logs part ≡ o → slice_get ((unwrap_or o (empty_history 0)).events) place ≡ Some event → pass_of event < length hands
      by_case None is e = absurd cc
      by_case (Some h) is e =
          let n = entry_at h.events h.log place event e in
          let W : History → Type 0 = λ x. All (λ (e : LogEntry). entry_by e < length hands) (log_entries x) in
          let less = slice_get_within logs part h is in
          let every = subst W (get_or_from_slice_get logs part h h is) (All-get_or W logs part h less out.out.whose) in
          subst (λ k. k < length hands) (ap pass_of n.2) (entry_below entry_by (length hands) (log_entries h) every place n.0 n.1)

  left_late : (part : ℕ) (h : History) → slice_get logs part ≡ Some h → LeftLate h.followers h.events
  left_late part h at =
      let L : History → Type 0 = λ x. LeftLate x.followers x.events in
      subst L (get_or_from_slice_get logs part h h at) (All-get_or L logs part h (slice_get_within logs part h at) out.out.late)

  owner_known : (b : Bool) (part place by seq : ℕ) → slice_get (cond b (map clock_owner_of events) (owners_here (slice_get logs part))) place ≡ Some (the_owner by seq) → by < length hands
  owner_known true part place by seq at =
      let n = clock_named events out.clock.tickers place by seq at in
      subst (λ k. k < length hands) n.2 (entry_below clock_by (length hands) entries out.clock.whose place n.0 n.1)
  owner_known false part place by seq at = part_owner (slice_get logs part) part place by seq refl at

  seats_unmet : All (λ (pass : LogPassView). (caller_now pass.seat).stage ≡ Stage.Waiting → IsUnanswerable logs events (operation_of (caller_now pass.seat).description)) (gathered seats hands)
  seats_unmet =
      let table = is_still.table in
      let shape : still.table.shape.gauges ≡ 3 * length logs + 1 = ap (λ (t : TableView). t.shape.gauges) table ∙ gauges ∙ ap (λ n. 3 * n + 1) (sym size) in
      let P : CallerView → Type 0 = λ seat. (caller_now seat).stage ≡ Stage.Waiting → IsUnanswerable logs events (operation_of (caller_now seat).description) in
      let callers : All P (seats_of seats) = subst (All P) is_still.callers (unmet still logs out.sources out.source numbers out.closed shape out.tell events (out.gauge ∙ ap (λ n. 3 * n) (sym size)) out.clock.stored) in
      seats_passes P seats hands all callers

  pub all_closed : AreClosed (shared_view room parts clock) (gathered seats hands) logs events numbers
  all_closed =
      let pairs = pairs_of (λ (pass : LogPassView). pass.made ≡ shared_view room parts clock) seats hands all made in
      let counts = gathered_count seats hands all in
      let ticked = ticked_pairs seats hands pairs out.clock.told in
      let table = is_still.table in
      let happened = clock_events events out.clock.tickers in
      let own =
      of_pairs (λ (pass : LogPassView). pass.ticked ≡ ticks_of (events_of (of_pass clock_by pass.number entries))) (λ seat hand. (of_pass clock_by hand.number entries ≡ (known hand.clock).mine) × IsJoined seat hand) seats hands ticked
      (λ seat hand is. ap (λ (es : List ClockEntry). ticks_of (events_of es)) (sym is.0)) in
      let whose : (i : ℕ) (entry : ClockEntry) → slice_get entries i ≡ Some entry → clock_by entry < length hands = λ i entry at. entry_below clock_by (length hands) entries out.clock.whose i entry at in
      let one : (number : ℕ) → number < length hands → count_by (λ (pass : LogPassView). pass.number == number) (gathered seats hands) ≡ 1 =
      λ number less.
      hand_sum (λ (pass : LogPassView). cond (pass.number == number) 1 0) (λ (hand : Hand). cond (hand.number == number) 1 0) seats hands all (λ seat hand. refl)
      ∙ out.clock.one number less in
      record {
        logs = record {
          whole = whole;
          followers = out.followers ∙ sym (map_twice part_lock (λ (l : LockView). slice_index l.name 0) parts);
          ticks = out.clock.ticks;
        };
        each = of_pairs (λ (pass : LogPassView). OthersCame pass.number pass.parts pass.clock logs events)
            (λ seat hand. OthersCame hand.number (map seen_part hand.parts.items) (events_of (known hand.clock).seen) logs events) seats hands
            (came_pairs seats hands out.rests pairs out.gone out.clock.told) (λ seat hand is. is);
        known = λ part place by seq at. subst (λ n. by < n) (sym counts.1) (owner_known (eqb part 64) part place by seq at);
        known_entries = λ part place event at. subst (λ n. pass_of event < n) (sym counts.1) (entry_known part place event at);
        late = left_late;
        one = λ number less. one number (subst (λ n. number < n) counts.1 less);
        still = seats_unmet;
        size = out.closed.size ∙ ap winners table;
        wins = λ by less.
            wins_taken still (out.sources ++ out.source ∷ []) numbers out.closed by (subst (λ (t : TableView). by < winners t) (sym table) less)
            ∙ ap (sum_by (taken_from by)) is_still.callers
            ∙ sum_of_map (λ (seat : PassView). seat.seat) (taken_from by) seats
            ∙ sym (seat_sum (λ (pass : LogPassView). taken_from by pass.seat) (λ (seat : PassView). taken_from by seat.seat) seats hands all (λ seat hand. refl));
        others = λ by more.
            seat_sum (λ (pass : LogPassView). taken_from by pass.seat) (λ (seat : PassView). taken_from by seat.seat) seats hands all (λ seat hand. refl)
            ∙ sym (sum_of_map (λ (seat : PassView). seat.seat) (taken_from by) seats)
            ∙ sym (ap (sum_by (taken_from by)) is_still.callers)
            ∙ none_taken still (out.sources ++ out.source ∷ []) numbers out.closed by (subst (λ (t : TableView). winners t ≤ by) (sym table) more);
        ticks = λ t. subst (λ (es : List ClockEvent). Contains (ticks_of es) t ↔ Any (λ (pass : LogPassView). Contains pass.ticked t) (gathered seats hands)) happened (added entries (gathered seats hands) (length hands) own whose one t);
        rising = of_pairs (λ (pass : LogPassView). IsStrictlyIncreasing (0 ∷ pass.ticked)) (λ seat hand. (of_pass clock_by hand.number entries ≡ (known hand.clock).mine) × IsJoined seat hand) seats hands ticked (λ seat hand is. is.1.seen.rising);
        moment = ap moment_of (sym happened) ∙ latest entries (gathered seats hands) (length hands) own whose one;
      }
