-- A pass after a turn of a lock.
use Rattle.std.proofs.Common.{◌≡◌, ◌≢◌, ℕ, zero, suc, ◌*◌, ◌≤◌, ◌<◌, List, [], ◌∷◌, length, map, set, get_or, Option, Some, refl, sym, ap, subst, ◌∙◌, inl, inr, arith}
use Rattle.std.proofs.lemmas.List.{get_or-map, length-map, length-set, map-set}
use Rattle.std.proofs.lemmas.List.Elements.{All-set}
use Rattle.std.proofs.lemmas.Option.{slice_get-map, slice_get_read}
use Rattle.std.specs.List.{AllByRecursion}
use Rattle.std.specs.Prelude.{option_map, slice_get, slice_index, unwrap_or}
use Rattle.partlog.specs.declared.clock_event.ClockEvent.{ClockEvent}
use Rattle.partlog.specs.declared.numbers.Numbers.{Numbers}
use Rattle.partlog.specs.Gauges.{numbers_of}
use Rattle.partlog.specs.History.{History}
use Rattle.partlog.specs.Kept.{IsKept}
use Rattle.partlog.specs.Looked.{looked}
use Rattle.partlog.specs.Moment.{moment_of}
use Rattle.partlog.specs.State.{PartState, state_of}
use Rattle.kanswer.specs.Decisions.{Outcome}
use Rattle.kanswer.specs.Waiting.{gauge_value}
use Rattle.kanswer.specs.declared.entered.Entered.{Entered}
use Rattle.kanswer.specs.Entered.{HasEntered}
use Rattle.kbytes.proofs.Laws.{get_set_other, get_set_same, same_or_not}
use Rattle.room_core.specs.Gauges.{IsPass}
use Rattle.room_table.specs.Seats.{TableView, caller_now}
use Rattle.purgatory.specs.scans.Desks.{desk_name}
use Rattle.audit.specs.broker.Board.{empty_history, history_at}
use Rattle.audit.specs.broker.GoesOn.{AllWhole}
use Rattle.audit.proofs.broker.Laws.{set_same, set_whole}
use Rattle.audit.specs.broker.Timely.{pass_of}
use Rattle.audit.specs.broker.books.Owned.{OthersAlone}
use Rattle.audit.specs.broker.books.TakenOut.{HasTakenOut}
use Rattle.audit.proofs.broker.books.Laws.{others_grown, others_within, part_came}
use Rattle.turn_lock.specs.declared.pass.TurnPass.{TurnPass}
use Rattle.turn_lock.specs.declared.lock.TurnLock.{TurnLock}
use Rattle.turn_lock.specs.Locks.{IsPassOf, IsReady, known, lock_name}
use Rattle.turn_lock.specs.OfPass.{of_pass}
use Rattle.purgatory.specs.Going.{GoesOn, IsAtRest, KeepsOperation}
use Rattle.purgatory.specs.Rooms.{IsOfRoom, LockView, PassView, RoomView}
use Rattle.shared_logs.specs.declared.entries.ClockEntry.{ClockEntry}
use Rattle.shared_logs.specs.declared.entries.LogEntry.{LogEntry}
use Rattle.shared_logs.specs.Desks.{MomentView, PartView, part_name}
use Rattle.shared_logs.specs.Entries.{entry_by}
use Rattle.shared_logs.specs.Histories.{events_of}
use Rattle.shared_logs.specs.Asked.{HasAsked, HasLooked, LeftOne}
use Rattle.shared_logs.specs.Coming.{HasCaughtUp, IsSamePass, OthersCame}
use Rattle.shared_logs.specs.Locked.{IsHand, IsLogPass, lock_of, moment_lock, part_lock, pass_view, seen_part, shared_view}
use Rattle.shared_logs.specs.Seen.{HasSeen}
use Rattle.shared_logs.specs.Shared.{AreShared, LogPassView, SharedView, followers_in}
use Rattle.shared_logs.specs.Shrinking.{HasShrunkOne}
use Rattle.shared_logs.specs.Shrunk.{HasShrunkSome}
use Rattle.shared_logs.specs.Turned.{HasLeft, OpensClock, OpensPart, SawPart, WasPartTurn, part_entries}
use Rattle.shared_logs.proofs.Shrinking.{one_taken}
use Rattle.shared_logs.proofs.Telling.{followers_are, found_longer, found_others, left_seen, name_after, number_after, own_after}

-- ---- lists

set_twice : {X : Type 0} (xs : List X) (i : ℕ) (a b : X) → set (set xs i a) i b ≡ set xs i b
set_twice [] i a b = refl
set_twice (x ∷ xs) zero a b = refl
set_twice {X = X} (x ∷ xs) (suc i) a b = ap (λ (ys : List X). x ∷ ys) (set_twice xs i a b)

-- the history of a partition that was set
pub at_set : (hs : List History) (part : ℕ) (h : History) → part < length hs → history_at (set hs part h) part ≡ h
at_set hs part h less = ap (λ (o : Option History). unwrap_or o (empty_history 0)) (get_set_same hs part h less)

kept_set : (hs : List History) (part : ℕ) (h : History) → part < length hs → IsKept h.log h.events → ((p : ℕ) → IsKept (history_at hs p).log (history_at hs p).events)
    → (p : ℕ) → IsKept (history_at (set hs part h) p).log (history_at (set hs part h) p).events
kept_set hs part h less kept all p =
    let K : History → Type 0 = λ x. IsKept x.log x.events in
    elim (same_or_not p part) [
      | inl same ↦ subst K (sym (ap (λ (i : ℕ). history_at (set hs part h) i) same ∙ at_set hs part h less)) kept
      | inr other ↦ subst K (sym (ap (λ (o : Option History). unwrap_or o (empty_history 0)) (get_set_other hs part p h other))) (all p)
    ]

-- ---- a pass of a lock

module _ {T E : Type 0} (entries : T → List E) (by : E → ℕ) (number : ℕ) (old new : TurnPass T E) (found left : T) (turn : HasLeft entries by (known old) (known new) found left) where
  pub hand_after : IsHand by number old → IsReady new → IsHand by number new
  hand_after hand ready =
      let same = number_after entries by (known old) (known new) found left turn ∙ hand.number_is in
      record {
        ready = ready;
        number_is = same;
        own = subst (λ (n : ℕ). of_pass by n (known new).seen ≡ (known new).mine) same (own_after entries by (known old) (known new) found left turn);
      }

  pub same_lock : new.seat.table_id ≡ old.seat.table_id → lock_of new ≡ lock_of old
  same_lock id =
      let name = name_after entries by (known old) (known new) found left turn in
      λ i. record { id = id i; name = name i }

-- which entries were its own
pub own_of : {T E : Type 0} (by : E → ℕ) (number : ℕ) (pass : TurnPass T E) → IsHand by number pass → of_pass by (known pass).number (known pass).seen ≡ (known pass).mine
own_of by number pass hand = subst (λ (n : ℕ). of_pass by n (known pass).seen ≡ (known pass).mine) (sym hand.number_is) hand.own

-- ---- what others did

pub came_of : (number : ℕ) (parts later : List History) (clock behind : List ClockEvent) → OthersAlone number parts clock later behind → length later ≡ length parts → OthersCame number parts clock later behind
came_of number parts later clock behind came size = record {
  grown = others_grown number parts later clock behind came;
  within = others_within number parts later clock behind came size;
}

-- what the pass has seen of a partition, where its pass of that lock was set
pub seen_at : (parts : List (TurnPass PartView LogEntry)) (part : ℕ) (new : TurnPass PartView LogEntry) → part < length parts → history_at (map seen_part (set parts part new)) part ≡ seen_part new
seen_at parts part new less =
    let size : part < length (map seen_part parts) = omega (arith, less, length-map parts seen_part) in
    ap (λ (hs : List History). history_at hs part) (map-set seen_part parts part new) ∙ at_set (map seen_part parts) part (seen_part new) size

-- ---- a turn of a partition's lock

-- Of the pass's fields its pass of the room went on, and its pass of this partition's lock took a turn.
pub record IsPartStep (number : ℕ) (room after : PassView) (parts : List (TurnPass PartView LogEntry)) (clock : TurnPass MomentView ClockEntry) (moment ticked part : ℕ)
    (old new : TurnPass PartView LogEntry) : Type 0 where
  pub is : IsLogPass number room parts clock moment ticked
  pub went : GoesOn room.seat after.seat
  pub kept : KeepsOperation (caller_now room.seat) (caller_now after.seat)
  pub locks : after.locks ≡ room.locks
  pub less : part < length parts
  pub at : old ≡ get_or parts part old
  pub ready : IsReady new
  pub id : new.seat.table_id ≡ old.seat.table_id

module _ (number : ℕ) (room after : PassView) (parts : List (TurnPass PartView LogEntry)) (clock : TurnPass MomentView ClockEntry) (moment ticked part : ℕ)
    (old new : TurnPass PartView LogEntry) (step : IsPartStep number room after parts clock moment ticked part old new) (found left : PartView) (turn : WasPartTurn (known old) (known new) found left) where
  abbrev before_view : LogPassView
  before_view = pass_view number room parts clock

  abbrev after_view : LogPassView
  after_view = pass_view number after (set parts part new) clock

  abbrev pub histories : List History
  histories = map seen_part parts

  there : slice_get parts part ≡ Some old
  there = slice_get_read parts (length parts) part old refl step.less step.at

  there_seen : slice_get histories part ≡ Some (seen_part old)
  there_seen = slice_get-map seen_part parts part ∙ ap (option_map seen_part) there

  less_seen : part < length histories
  less_seen = omega (arith, step.less, length-map parts seen_part)

  hand : IsHand entry_by number old
  hand = subst (IsHand entry_by number) (sym step.at) (step.is.parts_are part old step.less)

  made : after_view.made ≡ before_view.made
  made =
      let ls = set_same lock_of parts part old new there (same_lock part_entries entry_by number old new found left turn.turn step.id) in
      λ i. record { room = record { table = step.went.table i; locks = step.locks i }; parts = ls i; clock = lock_of clock }

  pub part_same : IsSamePass before_view after_view
  part_same = record { number = refl; made = made; went = step.went; kept = step.kept }

  pub part_others : OthersCame number histories before_view.clock (set histories part found.history) before_view.clock
  part_others =
      let longer = found_longer (known old) found turn.turn.found_is turn.name_found turn.kept_found in
      let others = found_others (known old) found turn.turn.found_is turn.name_found turn.kept_found (own_of entry_by number old hand) in
      came_of number histories (set histories part found.history) before_view.clock before_view.clock
      (part_came number histories before_view.clock part (seen_part old) found.history there_seen longer
      (subst (λ (n : ℕ). AllByRecursion (λ event. pass_of event ≢ n) longer.more) hand.number_is others))
      (length-set histories part found.history)

  pub parts_after : after_view.parts ≡ set histories part left.history
  parts_after = map-set seen_part parts part new ∙ ap (set histories part) (left_seen (known old) (known new) found left turn)

  pub part_left : LeftOne part before_view after_view (set histories part found.history) left.history
  part_left = record {
    same = part_same;
    others = part_others;
    alone = λ p ne. get_set_other histories part p found.history ne;
    parts = parts_after ∙ sym (set_twice histories part found.history left.history);
    clock = refl;
    ticked = refl;
  }

  pub part_seen : HasSeen after_view
  part_seen =
      let hs = set histories part left.history in
      let s = step.is.seen in
      let followers : left.history.followers ≡ (seen_part old).followers = followers_are left (known old).name turn.name_left in
      let back = sym parts_after in
      record {
        shared = subst AreShared (sym made) s.shared;
        seat = refl;
        number = step.went.pass ∙ s.number;
        there = subst (λ (t : TableView). IsPass t.shape number) (sym step.went.table) s.there;
        rests = subst IsAtRest (sym step.kept.stage) s.rests;
        whole = subst AllWhole back (set_whole histories part left.history s.whole less_seen turn.kept_left.whole);
        kept = subst (λ (xs : List History). (p : ℕ) → IsKept (history_at xs p).log (history_at xs p).events) back
            (kept_set histories part left.history less_seen turn.kept_left s.kept);
        followers = ap (map (λ (h : History). h.followers)) parts_after
            ∙ set_same (λ (h : History). h.followers) histories part (seen_part old) left.history there_seen followers
            ∙ s.followers ∙ ap followers_in (sym made);
        ticks = s.ticks;
        rising = s.rising;
        ticked = s.ticked;
      }

  pub part_pass : IsLogPass number after (set parts part new) clock moment ticked
  part_pass = record {
    seen = part_seen;
    parts_are = All-set (IsHand entry_by number) parts part new (hand_after part_entries entry_by number old new found left turn.turn hand step.ready) step.is.parts_are;
    clock_is = step.is.clock_is;
    moment_is = step.is.moment_is;
    ticked_is = step.is.ticked_is;
  }

  -- the history that the pass has seen there
  pub part_there : history_at after_view.parts part ≡ left.history
  part_there = ap (λ (hs : List History). history_at hs part) parts_after ∙ at_set histories part left.history less_seen

  pub found_there : history_at (set histories part found.history) part ≡ found.history
  found_there = at_set histories part found.history less_seen

  -- a call that asked the log
  pub part_asked : (seq : ℕ) (outcome : PartState → Outcome) (entered : Entered) (numbers : Numbers) → HasEntered (known old).number seq moment outcome found.history left.history entered
      → numbers ≡ numbers_of (state_of left.history) → HasAsked part seq outcome before_view after_view entered numbers
  part_asked seq outcome entered numbers entry numbers_are = record {
    found = set histories part found.history;
    left = left.history;
    turn = part_left;
    entry = subst (λ (h : History). HasEntered number seq (moment_of before_view.clock) outcome h left.history entered) (sym found_there)
        (subst (λ (n : ℕ). HasEntered n seq (moment_of before_view.clock) outcome found.history left.history entered) hand.number_is
        (subst (λ (t : ℕ). HasEntered (known old).number seq t outcome found.history left.history entered) step.is.moment_is entry));
    numbers_are = numbers_are;
  }

  -- followers were taken out of it
  pub part_shrunk : (t : ℕ) → HasShrunkSome (known old).number t found.history left.history → HasShrunkOne part t before_view after_view
  part_shrunk t some =
      let longer = found_longer (known old) found turn.turn.found_is turn.name_found turn.kept_found in
      let others =
      subst (λ (n : ℕ). AllByRecursion (λ event. pass_of event ≢ n) longer.more) hand.number_is
      (found_others (known old) found turn.turn.found_is turn.name_found turn.kept_found (own_of entry_by number old hand)) in
      let own : HasShrunkSome number t found.history left.history = subst (λ (n : ℕ). HasShrunkSome n t found.history left.history) hand.number_is some in
      record {
        shrunk = record {
          same = part_same;
          taken = subst (HasTakenOut number t histories) (sym parts_after) (one_taken number t histories part (seen_part old) found.history left.history there_seen longer others own);
          clock = refl;
          ticked = refl;
        };
        alone = λ p ne. ap (λ (hs : List History). slice_get hs p) parts_after ∙ get_set_other histories part p left.history ne;
      }

  -- a call that looked at it
  pub part_looked : (seq gauge least place : ℕ) (numbers : Numbers) → left.history ≡ looked found.history (known old).number seq → place ≡ length found.history.events
      → numbers ≡ numbers_of (state_of found.history) → least ≤ gauge_value gauge (state_of found.history) → HasLooked part seq gauge least before_view after_view place numbers
  part_looked seq gauge least place numbers entry place_is numbers_are late =
      let left_is : left.history ≡ looked (history_at (set histories part found.history) part) number seq =
      entry ∙ ap (λ (n : ℕ). looked found.history n seq) hand.number_is ∙ ap (λ (h : History). looked h number seq) (sym found_there) in
      record {
        found = set histories part found.history;
        turn = subst (LeftOne part before_view after_view (set histories part found.history)) left_is part_left;
        place_is = place_is ∙ ap (λ (h : History). length h.events) (sym found_there);
        numbers_are = numbers_are ∙ ap (λ (h : History). numbers_of (state_of h)) (sym found_there);
        late = subst (λ (h : History). least ≤ gauge_value gauge (state_of h)) (sym found_there) late;
      }

-- a turn that left nothing
pub part_caught_up : (number : ℕ) (room after : PassView) (parts : List (TurnPass PartView LogEntry)) (clock : TurnPass MomentView ClockEntry) (moment ticked part : ℕ)
    (old new : TurnPass PartView LogEntry) → IsPartStep number room after parts clock moment ticked part old new → SawPart (known old) (known new)
    → HasCaughtUp (pass_view number room parts clock) (pass_view number after (set parts part new) clock)
part_caught_up number room after parts clock moment ticked part old new step saw =
    let clock_events = events_of (known clock).seen in
    record {
      same = part_same number room after parts clock moment ticked part old new step saw.0 saw.0 saw.1;
      others = subst (λ (hs : List History). OthersCame number (map seen_part parts) clock_events hs clock_events)
          (sym (parts_after number room after parts clock moment ticked part old new step saw.0 saw.0 saw.1))
          (part_others number room after parts clock moment ticked part old new step saw.0 saw.0 saw.1);
      ticked = refl;
    }

-- ---- the locks of a pass, beside those of the logs

pub within : (its : RoomView) (locks : List (TurnLock PartView LogEntry)) (last : TurnLock MomentView ClockEntry) (shared : SharedView) (part : ℕ) → shared_view its locks last ≡ shared → part < length shared.parts → part < length locks
within its locks last shared part is there =
    let here : part < length (map part_lock locks) = subst (λ (s : SharedView). part < length s.parts) (sym is) there in
    omega (arith, here, length-map locks part_lock)

-- a pass has seen as many histories as there are locks
pub seen_count : (its : RoomView) (locks : List (TurnLock PartView LogEntry)) (last : TurnLock MomentView ClockEntry) (shared : SharedView) (pass : LogPassView) → shared_view its locks last ≡ shared → HasSeen pass → pass.made ≡ shared
    → length pass.parts ≡ length locks
seen_count its locks last shared pass is seen made =
    sym (length-map pass.parts (λ (h : History). h.followers)) ∙ ap length seen.followers ∙ ap (λ (v : SharedView). length (followers_in v)) (made ∙ sym is)
    ∙ length-map (map part_lock locks) (λ (lock : LockView). slice_index lock.name 0) ∙ length-map locks part_lock

module _ (number : ℕ) (room : PassView) (parts : List (TurnPass PartView LogEntry)) (clock : TurnPass MomentView ClockEntry) (moment ticked : ℕ) (is : IsLogPass number room parts clock moment ticked)
    (its : RoomView) (locks : List (TurnLock PartView LogEntry)) (last : TurnLock MomentView ClockEntry) (made : (pass_view number room parts clock).made ≡ shared_view its locks last) where
  pub of_room : IsOfRoom its room
  of_room = record { table = ap (λ (s : SharedView). s.room.table) made; locks = ap (λ (s : SharedView). s.room.locks) made }

  pub as_many : length parts ≡ length locks
  as_many = sym (length-map parts lock_of) ∙ ap (λ (s : SharedView). length s.parts) made ∙ length-map locks part_lock

  module _ (part : ℕ) (lock : TurnLock PartView LogEntry) (old : TurnPass PartView LogEntry) (less : part < length locks) (lock_at : lock ≡ get_or locks part lock) (at : old ≡ get_or parts part old) where
    less_parts : part < length parts
    less_parts = omega (arith, less, as_many)

    lock_there : get_or (map part_lock locks) part (lock_of old) ≡ part_lock lock
    lock_there = get_or-map part_lock locks part lock (lock_of old) less ∙ sym (ap part_lock lock_at)

    pass_there : get_or (map lock_of parts) part (lock_of old) ≡ lock_of old
    pass_there = get_or-map lock_of parts part old (lock_of old) less_parts ∙ sym (ap lock_of at)

    same : lock_of old ≡ part_lock lock
    same = sym pass_there ∙ ap (λ (s : SharedView). get_or s.parts part (lock_of old)) made ∙ lock_there

    pub opens : OpensPart its.table part number lock old
    opens =
        let hand = subst (IsHand entry_by number) (sym at) (is.parts_are part old less_parts) in
        let f = slice_index (followers_in (pass_view number room parts clock).made) part in
        let size : part < length (map lock_of parts) = omega (arith, less_parts, length-map parts lock_of) in
        let table : room.seat.table ≡ its.table = ap (λ (s : SharedView). s.room.table) made in
        let name : lock_name part_name lock ≡ f ∷ desk_name its.table part =
        ap (λ (v : LockView). v.name) (sym same) ∙ sym (ap (λ (v : LockView). v.name) pass_there) ∙ is.seen.shared.parts part (lock_of old) size ∙ ap (λ (t : TableView). f ∷ desk_name t part) table in
        record {
          of_lock = (ap (λ (v : LockView). v.id) same, ap (λ (v : LockView). v.name) same);
          ready = hand.ready;
          number_is = hand.number_is;
          name = name ∙ ap (λ (n : ℕ). n ∷ desk_name its.table part) (sym (ap (λ (xs : List ℕ). slice_index xs 0) name));
        }

    pub followers_at : slice_index (followers_in (shared_view its locks last)) part ≡ slice_index (lock_name part_name lock) 0
    followers_at =
        let size : part < length (map part_lock locks) = omega (arith, less, length-map locks part_lock) in
        get_or-map (λ (v : LockView). slice_index v.name 0) (map part_lock locks) part (lock_of old) 0 size
        ∙ ap (λ (v : LockView). slice_index v.name 0) lock_there

    pub part_step : (after : PassView) (new : TurnPass PartView LogEntry) → IsOfRoom its after → GoesOn room.seat after.seat → KeepsOperation (caller_now room.seat) (caller_now after.seat) → IsPassOf part_name lock new
        → IsReady new → IsPartStep number room after parts clock moment ticked part old new
    part_step after new of went kept pass ready = record {
      is = is;
      went = went;
      kept = kept;
      locks = of.locks ∙ sym of_room.locks;
      less = less_parts;
      at = at;
      ready = ready;
      id = pass.0 ∙ sym opens.of_lock.0;
    }

  pub opens_clock : OpensClock its.table number last clock
  opens_clock =
      let same : lock_of clock ≡ moment_lock last = ap (λ (s : SharedView). s.clock) made in
      let table : room.seat.table ≡ its.table = ap (λ (s : SharedView). s.room.table) made in
      let gauge = 3 * length (map lock_of parts) in
      record {
        of_lock = (ap (λ (v : LockView). v.id) same, ap (λ (v : LockView). v.name) same);
        ready = is.clock_is.ready;
        number_is = is.clock_is.number_is;
        gauge = gauge;
        name = ap (λ (v : LockView). v.name) (sym same) ∙ is.seen.shared.clock ∙ ap (λ (t : TableView). desk_name t gauge) table;
      }
