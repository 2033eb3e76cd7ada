-- The timers that come out as a scan of the clock begins, one after another.
use Rattle.std.proofs.Common.{⊎_elim, ◌≡◌, ◌≢◌, ◌∙◌, ◌↔◌, ℕ, zero, suc, ◌+◌, ◌<◌, ◌≤◌, false, List, Option, Some, None, Contains, length, add-one, ap, refl, subst, sym, arith}
use Rattle.std.specs.Prelude.{◌==◌, ◌&&◌, nat_le, nat_lt, not, slice_index}
use Rattle.std.specs.List.Sorted.{IsStrictlyIncreasing}
use Rattle.std.proofs.lemmas.Bool.{and_from, and_left, and_right, cases_eq, cases_lt, cond-false, cond-true, eq-eqb, le-leb, le-ltb, lt-leb, lt-ltb, not_from_true, or_from, or_right}
use Rattle.std.proofs.lemmas.List.{get_or_default}
use Rattle.room_core.specs.declared.parts.Duty.{Duty}
use Rattle.room_core.specs.declared.parts.Entry.{Entry}
use Rattle.room_core.specs.declared.shape.Shape.{Shape}
use Rattle.room_core.specs.Gauges.{IsPass, clock_of}
use Rattle.room_core.specs.Scans.{duty_of, is_due}
use Rattle.room_table.specs.Seats.{ScanView, scanner_now}
use Rattle.timing_wheel.specs.Timers.{deadline_of, entry_of, ids_of}
use Rattle.timing_wheel.specs.Turn.{IsDue}
use Rattle.purgatory.specs.scans.ClockKeeps.{ClockKeeps}
use Rattle.purgatory.specs.scans.Coming.{AreComingFrom, ChangesOnly, HasComeOut, IsClockListing, IsSettled, duty_at, duty_on, entry_at, timer_at}
use Rattle.purgatory.specs.scans.Desks.{ClockView}
use Rattle.purgatory.specs.scans.Scanned.{scan_begun}
use Rattle.purgatory.specs.scans.Timing.{IsTimed}
use Rattle.purgatory.proofs.scans.Settling.{come_else, settled_else}
use Rattle.purgatory.proofs.scans.Timers.{comes_out, due_some, some_due, stays_timed, timed_later, timed_within}

-- an entry under the clock is a duty where its deadline comes in this scan

module _ (shape : Shape) (begun heard : ℕ) (entry : Entry) where
  abbrev clock : ℕ
  clock = clock_of shape

  abbrev duty : Duty
  duty = record { gauge = clock; generation = entry.generation }

  the_clock : not (clock == clock) ≡ false
  the_clock = not_from_true (clock == clock) (eq-eqb clock clock refl)

  duty_due : begun < entry.deadline → entry.deadline ≤ heard → duty_of shape clock begun heard (Some entry) ≡ Some duty
  unfolding duty_of
  duty_due after by =
      cond-true (is_due shape clock begun heard entry) (Some duty) None
      (or_right (not (clock == clock)) (nat_lt begun entry.deadline && nat_le entry.deadline heard)
      (and_from (nat_lt begun entry.deadline) (nat_le entry.deadline heard) (lt-ltb begun entry.deadline after) (le-leb entry.deadline heard by)))

  duty_later : heard < entry.deadline → duty_of shape clock begun heard (Some entry) ≡ None
  unfolding duty_of
  duty_later later =
      cond-false (is_due shape clock begun heard entry) (Some duty) None
      (or_from (not (clock == clock)) (nat_lt begun entry.deadline && nat_le entry.deadline heard) the_clock
      (and_right (nat_lt begun entry.deadline) (nat_le entry.deadline heard) (lt-leb entry.deadline heard later)))

  duty_earlier : entry.deadline ≤ begun → duty_of shape clock begun heard (Some entry) ≡ None
  unfolding duty_of
  duty_earlier earlier =
      cond-false (is_due shape clock begun heard entry) (Some duty) None
      (or_from (not (clock == clock)) (nat_lt begun entry.deadline && nat_le entry.deadline heard) the_clock
      (and_left (nat_lt begun entry.deadline) (nat_le entry.deadline heard) (le-ltb begun entry.deadline earlier)))

no_entry_free : (shape : Shape) (begun heard : ℕ) → duty_of shape (clock_of shape) begun heard None ≡ None
unfolding duty_of
no_entry_free shape begun heard = refl

stays_free : (shape : Shape) (begun heard : ℕ) (entry : Option Entry) (timer : Option ℕ) → IsTimed begun entry timer → ((d : ℕ) → timer ≡ Some d → heard < d)
    → duty_of shape (clock_of shape) begun heard entry ≡ None
unfolding duty_of
stays_free shape begun heard None timer timed late = no_entry_free shape begun heard
stays_free shape begun heard (Some entry) None timed late = duty_earlier shape begun heard entry timed
stays_free shape begun heard (Some entry) (Some d) timed late =
    let by = timed.in_time in
    let later = late d refl in
    duty_later shape begun heard entry (omega (arith, by, later))

-- a place among ids
at_place : (ids : List ℕ) (i : ℕ) → i < length ids → Contains ids (slice_index ids i)
at_place ids i less = (i, less, get_or_default ids i (slice_index ids i) 0 less)

place_of : (ids : List ℕ) (pass : ℕ) → Contains ids pass → (i : ℕ) × (i < length ids) × (slice_index ids i ≡ pass)
place_of ids pass h = (h.0, h.1, get_or_default ids h.0 0 pass h.1 ∙ h.2)

module _ (kept : List (Option Entry)) (old new : ClockView) (heard : ℕ) (ids : List ℕ) (i : IsClockListing kept old) (all : (pass : ℕ) → IsSettled pass old) (later : old.timers.moment ≤ heard)
    (step : new.seat ≡ scan_begun old.seat (clock_of old.seat.table.shape) heard) (moment : new.timers.moment ≡ heard)
    (due : (id : ℕ) → Contains ids id ↔ IsDue heard old.timers id)
    (others : (id d : ℕ) → (deadline_of new.timers id ≡ Some d) ↔ ((deadline_of old.timers id ≡ Some d) × (heard < d))) where
  abbrev sh : Shape
  sh = old.seat.table.shape

  abbrev before : ℕ
  before = old.timers.moment

  entry_is : (q : ℕ) → entry_at new q ≡ entry_at old q
  entry_is q = ap (λ (v : ScanView). (scanner_now v).listing (clock_of v.table.shape) q) step

  duty_is : (q : ℕ) → duty_at new q ≡ duty_of sh (clock_of sh) before heard (entry_at old q)
  duty_is q =
      ap (λ (v : ScanView). (scanner_now v).duties q) step
      ∙ ap (λ n. duty_of sh (clock_of sh) n heard (entry_at old q)) (sym i.moment)

  duty_here : (entry : Entry) → Some (duty_on old entry) ≡ Some (duty_on new entry)
  duty_here entry = ap (λ (v : ScanView). Some (let d : Duty = record { gauge = clock_of v.table.shape; generation = entry.generation } in d)) (sym step)

  duty_as : (pass : ℕ) (o : Option Entry) → entry_at new pass ≡ o → duty_at new pass ≡ duty_of sh (clock_of sh) before heard o
  duty_as pass o e = duty_is pass ∙ ap (duty_of sh (clock_of sh) before heard) (sym (entry_is pass) ∙ e)

  comes : (pass : ℕ) → Contains ids pass → HasComeOut pass new
  comes pass there =
      let timer = due_some (entry_of old.timers pass) heard ((due pass).0 there) in
      let after : (entry : Entry) → entry_at new pass ≡ Some entry → before < entry.deadline = λ entry e.
      timed_later before entry (timer_at old pass) timer.0 (subst (λ o. IsTimed before o (timer_at old pass)) (sym (entry_is pass) ∙ e) (all pass).timed) timer.1 in
      record {
        no_timer = comes_out heard (timer_at old pass) (timer_at new pass) (others pass) timer.0 timer.1 timer.2;
        no_entry = λ e. duty_as pass None e ∙ no_entry_free sh before heard;
        duty = λ entry e l. duty_as pass (Some entry) e ∙ duty_due sh before heard entry (after entry e) (subst (λ n. entry.deadline ≤ n) moment l) ∙ duty_here entry;
        no_duty = λ entry e l. duty_as pass (Some entry) e ∙ duty_later sh before heard entry (subst (λ n. n < entry.deadline) moment l);
      }

  stays : (pass : ℕ) → (Contains ids pass → ⊥) → IsSettled pass new
  stays pass none =
      let late : (d : ℕ) → timer_at old pass ≡ Some d → heard < d = λ d e.
      ⊎_elim
      (λ (less : heard < d). less)
      (λ (come : d ≤ heard). absurd (none ((due pass).1 (some_due (entry_of old.timers pass) heard d e come))))
      (cases_lt heard d) in
      record {
        no_duty = duty_is pass ∙ stays_free sh before heard (entry_at old pass) (timer_at old pass) (all pass).timed late;
        timed = subst (λ n. IsTimed n (entry_at new pass) (timer_at new pass)) (sym moment)
            (subst (λ e. IsTimed heard e (timer_at new pass)) (sym (entry_is pass))
            (stays_timed before heard (entry_at old pass) (timer_at old pass) (timer_at new pass) later (others pass) (all pass).timed late));
      }

  pub begins_coming : AreComingFrom 0 ids new
  begins_coming = record {
    come = λ place from less. comes (slice_index ids place) (at_place ids place less);
    settled = λ pass none. stays pass (λ there. let at = place_of ids pass there in none at.0 (omega arith) at.1 at.2);
  }

  pub due_within : ids_of old.timers ≡ sh.passes → (place : ℕ) → place < length ids → IsPass sh (slice_index ids place)
  due_within size place less =
      subst (λ n. slice_index ids place < n) size
      (timed_within old.timers.slots (slice_index ids place) heard ((due (slice_index ids place)).0 (at_place ids place less)))

-- ids that rise
rising_far : (ids : List ℕ) → IsStrictlyIncreasing ids → (i j : ℕ) → i < j → j < length ids → slice_index ids i < slice_index ids j
rising_far ids rise i zero less there = absurd (omega arith)
rising_far ids rise i (suc j) less there =
    let next : slice_index ids j < slice_index ids (suc j) = subst (λ n. slice_index ids j < slice_index ids n) (add-one j) (rise j (omega (arith, there))) in
    ⊎_elim
    (λ (l : i < j). let far = rising_far ids rise i j l (omega (arith, there)) in omega (arith, far, next))
    (λ (m : j ≤ i). let same : i ≡ j = omega (arith, less, m) in subst (λ n. slice_index ids n < slice_index ids (suc j)) (sym same) next)
    (cases_lt i j)

-- the next of them is settled
pub coming_less : (place : ℕ) (ids : List ℕ) (old new : ClockView) → IsStrictlyIncreasing ids → place < length ids → AreComingFrom place ids old
    → ChangesOnly (slice_index ids place) old new → IsSettled (slice_index ids place) new → AreComingFrom (place + 1) ids new
coming_less place ids old new rise there c only here =
    let pass = slice_index ids place in
    record {
      come = λ i from less.
          let far = rising_far ids rise place i (omega (arith, from)) less in
          come_else pass (slice_index ids i) old new only (λ e. omega (arith, e, far)) (c.come i (omega (arith, from)) less);
      settled = λ other none.
          ⊎_elim
          (λ (same : other ≡ pass). subst (λ p. IsSettled p new) (sym same) here)
          (λ (n : other ≢ pass). settled_else pass other old new only n (c.settled other (λ i from less.
          ⊎_elim
          (λ (l : place < i). none i (omega (arith, l)) less)
          (λ (m : i ≤ place) e. let at : i ≡ place = omega (arith, m, from) in n (sym e ∙ ap (slice_index ids) at))
          (cases_lt place i))))
          (cases_eq other pass);
    }

pub coming_over : (place : ℕ) (ids : List ℕ) (desk : ClockView) → length ids ≤ place → AreComingFrom place ids desk → (pass : ℕ) → IsSettled pass desk
coming_over place ids desk over c pass = c.settled pass (λ i from less. absurd (omega (arith, over, from, less)))

-- what the desk keeps
pub clock_keeps : (kept : List (Option Entry)) (desk : ClockView) → IsClockListing kept desk → ((pass : ℕ) → IsSettled pass desk) → ClockKeeps desk
clock_keeps kept desk i all = record {
  shape = i.shape;
  scanners = i.scanners;
  number = i.number;
  passes = i.passes;
  moment = i.moment;
  timers = record { each = λ pass. (all pass).timed; own = i.own };
  no_duty = λ pass. (all pass).no_duty;
}

pub keeps_settled : (desk : ClockView) → ClockKeeps desk → (pass : ℕ) → IsSettled pass desk
keeps_settled desk k pass = record { no_duty = k.no_duty pass; timed = k.timers.each pass }
