-- A pass after a turn of the clock's lock.
use Rattle.std.proofs.Common.{◌≡◌, ℕ, ◌≤◌, ◌<◌, Bool, true, false, cond, inl, inr, List, [], ◌∷◌, ◌++◌, drop, length, map, max, refl, sym, ap, subst, ◌∙◌, arith, append-nil}
use Rattle.std.proofs.Math.Seq.{drop-append_seam}
use Rattle.std.proofs.lemmas.Bool.{cases_lt, le-ltb}
use Rattle.std.proofs.lemmas.List.{drop-map, map-append}
use Rattle.std.proofs.lemmas.List.Elements.{filter_map-append}
use Rattle.std.proofs.lemmas.List.Sums.{fold_push}
use Rattle.std.specs.List.{AllByRecursion, filter_map, fold}
use Rattle.std.specs.Prelude.{◌↔◌, IsTrue}
use Rattle.std.specs.List.Sorted.{IsStrictlyIncreasing}
use Rattle.partlog.specs.declared.clock_event.ClockEvent.{ClockEvent}
use Rattle.partlog.specs.declared.clock_event.ClockEvent.TheVariants.{Look, Tick}
use Rattle.partlog.specs.History.{History}
use Rattle.partlog.specs.Moment.{moment_of, tick_of}
use Rattle.partlog.specs.Ticked.{ticked}
use Rattle.audit.specs.Histories.{clock_owner_of, ticks_of}
use Rattle.room_core.specs.Gauges.{IsPass}
use Rattle.room_table.specs.Seats.{TableView, caller_now}
use Rattle.audit.specs.broker.GoesOn.{Longer}
use Rattle.audit.specs.broker.books.Owned.{NotOf, OthersAlone}
use Rattle.audit.proofs.broker.books.Laws.{clock_came}
use Rattle.turn_lock.specs.declared.known.Known.{Known}
use Rattle.turn_lock.specs.declared.pass.TurnPass.{TurnPass}
use Rattle.turn_lock.specs.declared.lock.TurnLock.{TurnLock}
use Rattle.turn_lock.specs.Locks.{IsPassOf, IsReady, known}
use Rattle.purgatory.specs.Going.{GoesOn, IsAtRest, KeepsOperation}
use Rattle.purgatory.specs.Rooms.{IsOfRoom, PassView, RoomView}
use Rattle.purgatory.proofs.Laws.{kept_same, stays}
use Rattle.shared_logs.specs.declared.entries.ClockEntry.{ClockEntry}
use Rattle.shared_logs.specs.declared.entries.LogEntry.{LogEntry}
use Rattle.shared_logs.specs.Desks.{MomentView, PartView, moment_name}
use Rattle.shared_logs.specs.Entries.{clock_by}
use Rattle.shared_logs.specs.Histories.{events_of}
use Rattle.shared_logs.proofs.Beside.{clock_events, clock_length}
use Rattle.shared_logs.proofs.TickedClock.{ticked_above}
use Rattle.shared_logs.specs.Asked.{HasLookedAtClock, HasTicked}
use Rattle.shared_logs.specs.Coming.{HasCaughtUp, IsSamePass, OthersCame}
use Rattle.shared_logs.specs.Locked.{IsHand, IsLogPass, lock_of, pass_view, seen_part, shared_view}
use Rattle.shared_logs.specs.Shared.{AreShared, LogPassView, followers_in}
use Rattle.shared_logs.specs.Turned.{HasLeft, LookedAtClock, SawClock, ToldClock, WasClockTurn, moment_entries}
use Rattle.shared_logs.proofs.Passes.{came_of, hand_after, of_room, opens_clock, own_of, same_lock}
use Rattle.shared_logs.proofs.Telling.{clock_found, clock_left_seen, clock_more, clock_others}
use Rattle.shared_logs.proofs.Ticks.{own_moment, own_rising, own_ticks, ticks_append}

-- ---- moments

tick_moment : (events : List ClockEvent) (t : ℕ) → moment_of (events ++ Tick t ∷ []) ≡ max (moment_of events) t
tick_moment events t = ap (fold max 0) (filter_map-append tick_of events (Tick t ∷ [])) ∙ fold_push max 0 (filter_map tick_of events) t

was_false : (b : Bool) → (IsTrue b → ⊥) → b ≡ false
was_false true never = absurd (never refl)
was_false false never = refl

-- later events lower no moment
abbrev most : ℕ → List ClockEvent → ℕ
most n events = fold max n (filter_map tick_of events)

most_least : (n : ℕ) (events : List ClockEvent) → n ≤ most n events
most_least n [] = omega arith
most_least n (Tick t ∷ events) = omega (arith, most_least (max n t) events)
most_least n (Look by seq ∷ events) = most_least n events

most_on : (n : ℕ) (events more : List ClockEvent) → most n events ≤ most n (events ++ more)
most_on n [] more = most_least n more
most_on n (Tick t ∷ events) more = most_on (max n t) events more
most_on n (Look by seq ∷ events) more = most_on n events more

moment_on : (events more : List ClockEvent) → moment_of events ≤ moment_of (events ++ more)
moment_on events more = most_on 0 events more

-- a clock that has reached a moment is as it was
pub stands : (events : List ClockEvent) (t : ℕ) → t ≤ moment_of events → ticked events t ≡ events
stands events t past = ap (λ (b : Bool). cond b (events ++ Tick t ∷ []) events) (le-ltb (moment_of events) t past)

-- a clock that was told a moment has reached it
pub reaches : (events : List ClockEvent) (t : ℕ) → t ≤ moment_of (ticked events t)
reaches events t =
    let M : List ClockEvent → Type 0 = λ es. t ≤ moment_of es in
    elim (cases_lt (moment_of events) t) [
      | inl less ↦
          let moment = tick_moment events t in
          subst M (sym (ticked_above events t less)) (omega (arith, moment))
      | inr past ↦ subst M (sym (stands events t past)) past
    ]

-- ---- the pass's own entries

pub mine_events : (before after : Known ClockEntry) (found left : MomentView) (more : List ClockEvent) → HasLeft moment_entries clock_by before after found left → left.events ≡ found.events ++ more
    → events_of after.mine ≡ events_of before.mine ++ more
mine_events before after found left more turn is =
    let es = moment_entries found in
    let fs = moment_entries left in
    let mine : after.mine ≡ before.mine ++ drop (length es) fs = ap (λ (k : Known ClockEntry). k.mine) turn.after_is in
    let event = λ (e : ClockEntry). e.event in
    let size : length es ≡ length found.events = clock_length found.events found.tickers in
    let told : events_of fs ≡ found.events ++ more = clock_events left.events left.tickers ∙ is in
    ap events_of mine
    ∙ map-append event before.mine (drop (length es) fs)
    ∙ ap (λ (xs : List ClockEvent). events_of before.mine ++ xs)
    (sym (drop-map event (length es) fs) ∙ ap (λ (n : ℕ). drop n (events_of fs)) size ∙ ap (drop (length found.events)) told ∙ drop-append_seam found.events more)

-- ---- a turn of the clock's lock

-- Of the pass's fields its pass of the room went on, and its pass of the clock's lock took a turn.
pub record IsClockStep (number : ℕ) (room after : PassView) (parts : List (TurnPass PartView LogEntry)) (old new : TurnPass MomentView ClockEntry) (moment ticked : ℕ) : Type 0 where
  pub is : IsLogPass number room parts old moment ticked
  pub went : GoesOn room.seat after.seat
  pub kept : KeepsOperation (caller_now room.seat) (caller_now after.seat)
  pub locks : after.locks ≡ room.locks
  pub ready : IsReady new
  pub id : new.seat.table_id ≡ old.seat.table_id

module _ (number : ℕ) (room after : PassView) (parts : List (TurnPass PartView LogEntry)) (old new : TurnPass MomentView ClockEntry) (moment ticked : ℕ)
    (step : IsClockStep number room after parts old new moment ticked) (found left : MomentView) (turn : WasClockTurn (known old) (known new) found left) (moment_after ticked_after : ℕ)
    (moment_is : moment_after ≡ moment_of (events_of (known new).seen)) (ticked_is : ticked_after ≡ fold max 0 (ticks_of (events_of (known new).mine))) where
  abbrev before_view : LogPassView
  before_view = pass_view number room parts old

  abbrev after_view : LogPassView
  after_view = pass_view number after parts new

  hand : IsHand clock_by number new
  hand = hand_after moment_entries clock_by number old new found left turn.turn step.is.clock_is step.ready

  made : after_view.made ≡ before_view.made
  made =
      let l = same_lock moment_entries clock_by number old new found left turn.turn step.id in
      λ i. record { room = record { table = step.went.table i; locks = step.locks i }; parts = map lock_of parts; clock = l i }

  pub clock_same : IsSamePass before_view after_view
  clock_same = record { number = refl; made = made; went = step.went; kept = step.kept }

  pub clock_came_to : OthersCame number before_view.parts before_view.clock before_view.parts found.events
  clock_came_to =
      let f = turn.turn.found_is in
      let more = clock_more (known old) found f in
      let others = clock_others (known old) found f (own_of clock_by number old step.is.clock_is) in
      came_of number before_view.parts before_view.parts before_view.clock found.events
      (subst (OthersAlone number before_view.parts before_view.clock before_view.parts) (sym (clock_found (known old) found f))
      (clock_came number before_view.parts before_view.clock more
      (subst (λ (n : ℕ). AllByRecursion (λ event. NotOf n (clock_owner_of event)) more) step.is.clock_is.number_is others)))
      refl

  pub clock_after : after_view.clock ≡ left.events
  clock_after = clock_left_seen (known old) (known new) found left turn

  pub clock_pass : IsLogPass number after parts new moment_after ticked_after
  clock_pass =
      let s = step.is.seen in
      let rising : IsStrictlyIncreasing (0 ∷ ticks_of after_view.clock) = subst (λ (es : List ClockEvent). IsStrictlyIncreasing (0 ∷ ticks_of es)) (sym clock_after) turn.keeps_left.ticks in
      record {
        seen = record {
          shared = subst AreShared (sym made) s.shared;
          seat = refl;
          number = step.went.pass ∙ s.number;
          there = subst (λ (t : TableView). IsPass t.shape number) (sym step.went.table) s.there;
          rests = subst IsAtRest (sym step.kept.stage) s.rests;
          whole = s.whole;
          kept = s.kept;
          followers = s.followers ∙ ap followers_in (sym made);
          ticks = rising;
          rising = own_rising number (known new).seen (known new).mine hand.own rising;
          ticked = own_ticks number (known new).seen (known new).mine hand.own;
        };
        parts_are = step.is.parts_are;
        clock_is = hand;
        moment_is = moment_is;
        ticked_is = ticked_is;
      }

-- the ticks that the pass added, with those of this turn
own_more : (number : ℕ) (room after : PassView) (parts : List (TurnPass PartView LogEntry)) (old new : TurnPass MomentView ClockEntry) (found left : MomentView) (more : List ClockEvent)
    → WasClockTurn (known old) (known new) found left → left.events ≡ found.events ++ more → (pass_view number after parts new).ticked ≡ (pass_view number room parts old).ticked ++ ticks_of more
own_more number room after parts old new found left more turn is = ap ticks_of (mine_events (known old) (known new) found left more turn.turn is) ∙ ticks_append (events_of (known old).mine) more

own_still : (number : ℕ) (room after : PassView) (parts : List (TurnPass PartView LogEntry)) (old new : TurnPass MomentView ClockEntry) (found left : MomentView) (more : List ClockEvent)
    → WasClockTurn (known old) (known new) found left → left.events ≡ found.events ++ more → ticks_of more ≡ [] → (pass_view number after parts new).ticked ≡ (pass_view number room parts old).ticked
own_still number room after parts old new found left more turn is none =
    let was = (pass_view number room parts old).ticked in
    own_more number room after parts old new found left more turn is ∙ ap (λ (ts : List ℕ). was ++ ts) none ∙ append-nil was

module _ (number : ℕ) (room after : PassView) (parts : List (TurnPass PartView LogEntry)) (old new : TurnPass MomentView ClockEntry) (moment ticked moment_after : ℕ)
    (step : IsClockStep number room after parts old new moment ticked) (moment_is : moment_after ≡ moment_of (events_of (known new).seen)) where
  abbrev was : LogPassView
  was = pass_view number room parts old

  abbrev now : LogPassView
  now = pass_view number after parts new

  -- where it added none, the greatest is the same
  still_last : now.ticked ≡ was.ticked → ticked ≡ fold max 0 now.ticked
  still_last same = step.is.ticked_is ∙ ap (fold max 0) (sym same)

  saw_ticked : SawClock (known old) (known new) → now.ticked ≡ was.ticked
  saw_ticked saw = own_still number room after parts old new saw.0 saw.0 [] saw.1 (sym (append-nil saw.0.events)) refl

  pub saw_pass : SawClock (known old) (known new) → IsLogPass number after parts new moment_after ticked
  saw_pass saw = clock_pass number room after parts old new moment ticked step saw.0 saw.0 saw.1 moment_after ticked moment_is (still_last (saw_ticked saw))

  pub clock_caught_up : SawClock (known old) (known new) → HasCaughtUp was now
  clock_caught_up saw =
      let same = saw_ticked saw in
      let last = still_last same in
      record {
        same = clock_same number room after parts old new moment ticked step saw.0 saw.0 saw.1 moment_after ticked moment_is last;
        others = subst (OthersCame number (map seen_part parts) (events_of (known old).seen) (map seen_part parts))
            (sym (clock_after number room after parts old new moment ticked step saw.0 saw.0 saw.1 moment_after ticked moment_is last))
            (clock_came_to number room after parts old new moment ticked step saw.0 saw.0 saw.1 moment_after ticked moment_is last);
        ticked = same;
      }

  module _ (seq least place told : ℕ) (l : LookedAtClock seq least (known old) (known new) place told) where
    looked_same : now.ticked ≡ was.ticked
    looked_same = own_still number room after parts old new l.found l.left (Look (known old).number seq ∷ []) l.turn l.entry refl

    looked_last : ticked ≡ fold max 0 now.ticked
    looked_last = still_last looked_same

    pub looked_pass : IsLogPass number after parts new moment_after ticked
    looked_pass = clock_pass number room after parts old new moment ticked step l.found l.left l.turn moment_after ticked moment_is looked_last

    pub clock_looked : HasLookedAtClock seq least was now place told
    clock_looked = record {
      found = l.found.events;
      same = clock_same number room after parts old new moment ticked step l.found l.left l.turn moment_after ticked moment_is looked_last;
      others = clock_came_to number room after parts old new moment ticked step l.found l.left l.turn moment_after ticked moment_is looked_last;
      parts = refl;
      clock = clock_after number room after parts old new moment ticked step l.found l.left l.turn moment_after ticked moment_is looked_last
          ∙ l.entry ∙ ap (λ (n : ℕ). l.found.events ++ Look n seq ∷ []) step.is.clock_is.number_is;
      ticked = looked_same;
      place_is = l.place_is;
      moment_is = l.moment_is;
      late = l.late;
      limit = l.limit;
    }

  -- it was told a moment
  module _ (t : ℕ) (rose : Bool) (d : ToldClock t (known old) (known new) rose) where
    told_added : moment_of d.found.events < t → now.ticked ≡ was.ticked ++ t ∷ []
    told_added less = own_more number room after parts old new d.found d.left (Tick t ∷ []) d.turn (d.told.events ∙ ticked_above d.found.events t less)

    told_still : rose ≡ false → now.ticked ≡ was.ticked
    told_still is =
        let same : d.left.events ≡ d.found.events ++ [] = ap (λ (m : MomentView). m.events) (d.told.still is) ∙ sym (append-nil d.found.events) in
        own_still number room after parts old new d.found d.left [] d.turn same refl

    told_last : (b : Bool) → rose ≡ b → cond b t ticked ≡ fold max 0 now.ticked
    told_last true is =
        let less : moment_of d.found.events < t = d.told.rose_is.0 is in
        let before : fold max 0 was.ticked ≤ moment_of was.clock = own_moment number (known old).seen (known old).mine step.is.clock_is.own in
        let on : moment_of was.clock ≤ moment_of d.found.events =
        subst (λ (es : List ClockEvent). moment_of was.clock ≤ moment_of es) (sym (clock_found (known old) d.found d.turn.turn.found_is))
        (moment_on was.clock (clock_more (known old) d.found d.turn.turn.found_is)) in
        let last : fold max 0 now.ticked ≡ max (fold max 0 was.ticked) t = ap (fold max 0) (told_added less) ∙ fold_push max 0 was.ticked t in
        omega (arith, last, before, on, less)
    told_last false is = still_last (told_still is)

    pub told_pass : IsLogPass number after parts new moment_after (cond rose t ticked)
    told_pass = clock_pass number room after parts old new moment ticked step d.found d.left d.turn moment_after (cond rose t ticked) moment_is (told_last rose refl)

    pub clock_ticked : HasTicked t was now
    clock_ticked =
        let last = told_last rose refl in
        let at = clock_after number room after parts old new moment ticked step d.found d.left d.turn moment_after (cond rose t ticked) moment_is last ∙ d.told.events in
        record {
          found = d.found.events;
          same = clock_same number room after parts old new moment ticked step d.found d.left d.turn moment_after (cond rose t ticked) moment_is last;
          others = clock_came_to number room after parts old new moment ticked step d.found d.left d.turn moment_after (cond rose t ticked) moment_is last;
          parts = refl;
          clock = at;
          added = told_added;
          stood = λ most. told_still (was_false rose (λ up. let above = d.told.rose_is.0 up in omega (arith, most, above)));
          reached = subst (λ (es : List ClockEvent). t ≤ moment_of es) (sym at) (reaches d.found.events t);
        }

    -- and whether that was above the moment that it found
    pub clock_told : (told : HasTicked t was now) × (IsTrue rose ↔ (moment_of told.found < t))
    unfolding clock_ticked
    clock_told = (clock_ticked, d.told.rose_is)

-- nothing came
abbrev as_it_was : (h : History) → Longer h h
as_it_was h = record { followers = refl; more = []; bytes = []; events = sym (append-nil h.events); log = sym (append-nil h.log) }

pub none_came : (number : ℕ) (parts : List History) (clock : List ClockEvent) → OthersCame number parts clock parts clock
none_came number parts clock =
    came_of number parts parts clock clock
    (record { each = λ p h e. (h, e, as_it_was h, tt); more = []; events = sym (append-nil clock); others = tt })
    refl

-- a moment that the clock has reached
pub told_before : (v : LogPassView) (t : ℕ) → t ≤ moment_of v.clock → HasTicked t v v
told_before v t past = record {
  found = v.clock;
  same = record { number = refl; made = refl; went = stays v.seat; kept = kept_same (caller_now v.seat) };
  others = none_came v.number v.parts v.clock;
  parts = refl;
  clock = sym (stands v.clock t past);
  added = λ less. absurd (omega (arith, less, past));
  stood = λ most. refl;
  reached = past;
}

-- it isn't above the clock's
pub told_nothing : (v : LogPassView) (t : ℕ) → t ≤ moment_of v.clock → (told : HasTicked t v v) × (IsTrue false ↔ (moment_of told.found < t))
unfolding told_before
told_nothing v t past = (told_before v t past, ((λ up. absurd cc), (λ less. absurd (omega (arith, less, past)))))

-- what the clock's lock tells of a pass beside the logs
pub clock_step : (number : ℕ) (room : PassView) (parts : List (TurnPass PartView LogEntry)) (old : TurnPass MomentView ClockEntry) (moment ticked : ℕ) → IsLogPass number room parts old moment ticked
    → (its : RoomView) (locks : List (TurnLock PartView LogEntry)) (last : TurnLock MomentView ClockEntry) → (pass_view number room parts old).made ≡ shared_view its locks last
    → (after : PassView) (new : TurnPass MomentView ClockEntry) → IsOfRoom its after → GoesOn room.seat after.seat → KeepsOperation (caller_now room.seat) (caller_now after.seat) → IsPassOf moment_name last new → IsReady new
    → IsClockStep number room after parts old new moment ticked
clock_step number room parts old moment ticked is its locks last made after new of went kept pass ready =
    let was = of_room number room parts old moment ticked is its locks last made in
    let opened = opens_clock number room parts old moment ticked is its locks last made in
    record {
      is = is;
      went = went;
      kept = kept;
      locks = of.locks ∙ sym was.locks;
      ready = ready;
      id = pass.0 ∙ sym opened.of_lock.0;
    }
