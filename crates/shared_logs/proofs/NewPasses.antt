-- The passes of new logs have seen nothing.
use Rattle.std.proofs.Common.{◌≡◌, ◌∙◌, ℕ, zero, suc, ◌+◌, List, [], ◌∷◌, Global, Option, Vec, fold, length, map, max, ap, inl, refl, subst, sym, arith}
use Rattle.std.specs.Prelude.{All, slice_index, unwrap_or}
use Rattle.std.proofs.lemmas.List.Elements.{All-head, All-nil, All-tail, All-weaker}
use Rattle.partlog.specs.History.{History}
use Rattle.partlog.specs.Kept.{IsDense, IsKept}
use Rattle.partlog.specs.Moment.{moment_of}
use Rattle.audit.specs.Histories.{ticks_of}
use Rattle.turn_lock.specs.declared.known.Known.{Known}
use Rattle.turn_lock.specs.declared.known.Stage.TheVariants.{Idle}
use Rattle.turn_lock.specs.declared.pass.TurnPass.{TurnPass}
use Rattle.turn_lock.specs.Locks.{known}
use Rattle.turn_lock.specs.OfPass.{of_pass}
use Rattle.turn_lock.specs.Passes.{at_stage, known_of}
use Rattle.shared_logs.specs.declared.entries.ClockEntry.{ClockEntry}
use Rattle.shared_logs.specs.declared.entries.LogEntry.{LogEntry}
use Rattle.shared_logs.specs.Desks.{MomentView, PartView}
use Rattle.shared_logs.specs.Entries.{clock_by, entry_by}
use Rattle.shared_logs.specs.Histories.{events_of, history_of}
use Rattle.audit.specs.broker.Board.{empty_history, history_at}
use Rattle.audit.specs.broker.GoesOn.{AllWhole, IsWhole}
use Rattle.room_core.specs.Gauges.{IsPass}
use Rattle.purgatory.specs.Rooms.{LockView, PassView}
use Rattle.shared_logs.specs.Dealt.{AreDealt, IsFreshHand, IsFreshOf, IsFreshRow, IsFreshSeat}
use Rattle.shared_logs.specs.Locked.{IsHand, IsLogPass, lock_of, pass_view, seen_part}
use Rattle.shared_logs.specs.Making.{fresh_pass}
use Rattle.shared_logs.specs.Seen.{HasSeen}
use Rattle.shared_logs.proofs.Dealt.{from_next}
use Rattle.shared_logs.specs.Shared.{AreShared, SharedView, followers_in}

-- what a seat has
abbrev Mine : Type 0 → Type 0 → Type 0
Mine T E = List (Known E) × List (ℕ × Option T)

module _ {T E : Type 0} where
  nothing_seen : (number : ℕ) (pass : TurnPass T E) → IsFreshHand number pass → (known pass).seen ≡ []
  nothing_seen number pass is = ap (λ (m : Mine T E). (known_of m.0).seen) is

  nothing_added : (number : ℕ) (pass : TurnPass T E) → IsFreshHand number pass → (known pass).mine ≡ []
  nothing_added number pass is = ap (λ (m : Mine T E). (known_of m.0).mine) is

  pub new_hand : (by : E → ℕ) (number : ℕ) (pass : TurnPass T E) → IsFreshHand number pass → IsHand by number pass
  new_hand by number pass is =
      let P : Mine T E → Type 0 = λ m. m ≡ (at_stage Idle (known_of m.0) ∷ [], []) in
      record {
        ready = subst P (sym is) refl;
        number_is = ap (λ (m : Mine T E). (known_of m.0).number) is;
        own = ap (λ (entries : List E). of_pass by number entries) (nothing_seen number pass is) ∙ sym (nothing_added number pass is);
      }

-- nothing is seen of any partition
row_seen : (number : ℕ) (passes : List (TurnPass PartView LogEntry)) → All (IsFreshHand number) passes
    → map seen_part passes ≡ map empty_history (map (λ (lock : LockView). slice_index lock.name 0) (map lock_of passes))
row_seen number [] all = refl
row_seen number (pass ∷ passes) all =
    ap (λ (entries : List LogEntry). history_of (slice_index (known pass).name 0) entries ∷ map seen_part passes) (nothing_seen number pass (All-head (IsFreshHand number) pass passes all))
    ∙ ap (λ (hs : List History). empty_history (slice_index (known pass).name 0) ∷ hs) (row_seen number passes (All-tail (IsFreshHand number) pass passes all))

-- each of these histories is empty
at_empty : (counts : List ℕ) (part : ℕ) → (followers : ℕ) × (history_at (map empty_history counts) part ≡ empty_history followers)
at_empty [] part = (0, refl)
at_empty (n ∷ counts) zero = (n, refl)
at_empty (n ∷ counts) (suc part) = at_empty counts part

empty_whole : (counts : List ℕ) → AllWhole (map empty_history counts)
empty_whole [] p h at = absurd cc
empty_whole (n ∷ counts) zero h at = subst IsWhole (ap (λ o. unwrap_or o (empty_history n)) at) refl
empty_whole (n ∷ counts) (suc p) h at = empty_whole counts p h at

empty_followers : (counts : List ℕ) → map (λ (h : History). h.followers) (map empty_history counts) ≡ counts
empty_followers [] = refl
empty_followers (n ∷ counts) = ap (λ (ns : List ℕ). n ∷ ns) (empty_followers counts)

pub new_seen : (shared : SharedView) (number : ℕ) → AreShared shared → IsPass shared.room.table.shape number → HasSeen (fresh_pass shared number)
new_seen shared number is there = record {
  shared = is;
  seat = refl;
  number = refl;
  there = there;
  rests = inl refl;
  whole = empty_whole (followers_in shared);
  kept = λ part.
      let e = at_empty (followers_in shared) part in
      let P : History → Type 0 = λ h. IsKept h.log h.events in
      subst P (sym e.1) (record { whole = refl; bounded = omega arith; dense = All-nil IsDense });
  followers = empty_followers (followers_in shared);
  ticks = λ k lt. absurd (omega (arith, lt));
  rising = λ k lt. absurd (omega (arith, lt));
  ticked = All-nil _;
}

module _ (shared : SharedView) (number : ℕ) (seat : PassView) (row : Vec (TurnPass PartView LogEntry) Global) (clock : TurnPass MomentView ClockEntry) (of_seat : IsFreshSeat shared.room number seat)
    (of_row : IsFreshRow shared.parts number row) (of_clock : IsFreshOf shared.clock number clock) where
  pub new_view : pass_view number seat row.items clock ≡ fresh_pass shared number
  new_view =
      let parts : map seen_part row.items ≡ map empty_history (followers_in shared) =
      row_seen number row.items of_row.fresh_are ∙ ap (λ (locks : List LockView). map empty_history (map (λ (lock : LockView). slice_index lock.name 0) locks)) of_row.locks_are in
      let events = ap events_of (nothing_seen number clock of_clock.fresh_is) in
      let ticks = ap (λ (entries : List ClockEntry). ticks_of (events_of entries)) (nothing_added number clock of_clock.fresh_is) in
      λ j. record {
        number = number;
        made = record { room = record { table = (of_seat.is j).seat.table; locks = (of_seat.is j).locks }; parts = of_row.locks_are j; clock = of_clock.lock_is j };
        seat = (of_seat.is j).seat;
        parts = parts j;
        clock = events j;
        ticked = ticks j;
      }

  pub new_pass : AreShared shared → IsLogPass number seat row.items clock 0 0
  new_pass is = record {
    seen = subst HasSeen (sym new_view) (new_seen shared number is of_seat.there);
    parts_are = All-weaker (IsFreshHand number) (IsHand entry_by number) (new_hand entry_by number) row.items of_row.fresh_are;
    clock_is = new_hand clock_by number clock of_clock.fresh_is;
    moment_is = ap (λ (entries : List ClockEntry). moment_of (events_of entries)) (sym (nothing_seen number clock of_clock.fresh_is));
    ticked_is = ap (λ (entries : List ClockEntry). fold max 0 (ticks_of (events_of entries))) (sym (nothing_added number clock of_clock.fresh_is));
  }

-- a seat, a row and a pass of the clock's lock are taken
module _ (shared : SharedView) (first : ℕ) (seats seats_left : List PassView) (seat : PassView) (rows rows_left : List (Vec (TurnPass PartView LogEntry) Global)) (row : Vec (TurnPass PartView LogEntry) Global)
    (clocks clocks_left : List (TurnPass MomentView ClockEntry)) (clock : TurnPass MomentView ClockEntry) (s : seats ≡ seat ∷ seats_left) (r : rows ≡ row ∷ rows_left) (c : clocks ≡ clock ∷ clocks_left)
    (dealt : AreDealt shared first seats rows clocks) where
  pub first_dealt : IsFreshSeat shared.room first seat × IsFreshRow shared.parts first row × IsFreshOf shared.clock first clock
  first_dealt = (
    (from_next (IsFreshSeat shared.room) first seats seats_left seat s dealt.seats_are).0,
    (from_next (IsFreshRow shared.parts) first rows rows_left row r dealt.rows_are).0,
    (from_next (IsFreshOf shared.clock) first clocks clocks_left clock c dealt.clocks_are).0,
  )

  pub rest_dealt : AreDealt shared (first + 1) seats_left rows_left clocks_left
  rest_dealt =
      let a = ap (λ (l : List PassView). length l) s in
      let b = ap (λ (l : List (Vec (TurnPass PartView LogEntry) Global)). length l) r in
      let d = ap (λ (l : List (TurnPass MomentView ClockEntry)). length l) c in
      let as_many_rows = dealt.as_many_rows in
      let as_many_clocks = dealt.as_many_clocks in
      record {
        shared_is = dealt.shared_is;
        as_many_rows = omega (arith, as_many_rows, a, b);
        as_many_clocks = omega (arith, as_many_clocks, a, d);
        seats_are = (from_next (IsFreshSeat shared.room) first seats seats_left seat s dealt.seats_are).1;
        rows_are = (from_next (IsFreshRow shared.parts) first rows rows_left row r dealt.rows_are).1;
        clocks_are = (from_next (IsFreshOf shared.clock) first clocks clocks_left clock c dealt.clocks_are).1;
      }
