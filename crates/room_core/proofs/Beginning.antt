-- Begin: who was late is now listed under the gauge, and so a duty; and so is whose deadline has come.
use Rattle.std.proofs.Common.{⊎_elim, inl, inr, ◌≡◌, ◌≢◌, ◌⊎◌, ℕ, ◌-◌, ◌%◌, ◌<◌, ◌≤◌, max, Bool, true, false, not, cond, sym, ap, refl, subst, ◌∙◌, arith, Option, Some, None}
use Rattle.std.specs.Prelude.{◌==◌, ◌&&◌, ◌||◌, nat_lt, nat_le}
use Rattle.std.proofs.lemmas.Bool.{cases_lt, ne_eqb, lt-ltb, le-leb}
use Rattle.room_core.specs.declared.shape.Shape.{Shape}
use Rattle.room_core.specs.declared.parts.Stage.{Stage}
use Rattle.room_core.specs.declared.parts.Stage.TheVariants.{Listing, Checking, Waiting, Over}
use Rattle.room_core.specs.declared.parts.Heard.{Heard}
use Rattle.room_core.specs.declared.parts.Entry.{Entry}
use Rattle.room_core.specs.declared.parts.Duty.{Duty}
use Rattle.room_core.specs.Put.{put}
use Rattle.room_core.specs.Gauges.{IsGauge, IsGaugeOf, IsShape, clock_of, scanner_of}
use Rattle.room_core.specs.Description.{IsOperation, needs_of, gauge_of, deadline_of, tally, marked_gauge}
use Rattle.room_core.specs.Readings.{known, unread}
use Rattle.room_core.specs.Duty.{IsOpen, IsOnDuty, IsLate, ShardFinds, ScannerFinds, FindsTally, FindsTime, IsSatisfiedNow, IsFoundByTally, IsFoundByTime, owner_readings, met_readings}
use Rattle.room_core.specs.Sound.{IsEntry, IsNeeded}
use Rattle.room_core.specs.Checks.{IsDuty}
use Rattle.room_core.specs.Scans.{CanBegin, beginning, scanner_begins, number_heard, IsHeard, duty_of, is_due}
use Rattle.room_core.specs.Carried.{IsUpheld, ScannerIsKept}
use Rattle.room_core.specs.State.{State}
use Rattle.room_core.proofs.Facts.{ValuesAreSound, IsListed, IsRightEntry, ListingsAreSound, GenerationsAreSound, WinsAreSound}
use Rattle.room_core.proofs.Puts.{at-put, put-same, put-other}
use Rattle.room_core.proofs.Tallies.{late_or, tally_rises}
use Rattle.room_core.proofs.Known.{of_either, unread_below}
use Rattle.room_core.proofs.Dropping.{no_duty}
use Rattle.room_core.proofs.Finding.{either_too}
use Rattle.room_core.proofs.Kept.{IsKept, kept_of, carried}
use Rattle.room_core.proofs.Marking.{marked_need, marked_clock, clock_own}
use Rattle.room_core.proofs.Prizes.{open_busy}
use Rattle.room_core.proofs.Winners.{scanner_wins_nothing}

pub heard_is : (o : Option Heard) (gauge : ℕ) → IsHeard o gauge → o ≡ Some (record { gauge = gauge; number = number_heard o })
heard_is None gauge h = absurd h
heard_is (Some x) gauge h = ap (λ g. Some (record { gauge = g; number = x.number })) h

listing_or : (stage : Stage) → (stage ≡ Listing) ⊎ (stage ≢ Listing)
listing_or Stage.Idle = inr (λ e. cc)
listing_or Listing = inl refl
listing_or Checking = inr (λ e. cc)
listing_or Waiting = inr (λ e. cc)
listing_or (Over how by) = inr (λ e. cc)

owner_listing : (stage : Stage) (readings : ℕ → Option ℕ) (value : ℕ → ℕ) (g : ℕ) → stage ≡ Listing → value g ≤ known (owner_readings stage readings) value g
unfolding owner_readings
owner_listing stage readings value g e = subst (λ st. value g ≤ known (owner_readings st readings) value g) (sym e) (omega arith)

unmet_knows : (pass : ℕ) (value : ℕ → ℕ) (g : ℕ) → value g ≤ known (met_readings None unread pass) value g
unfolding met_readings
unmet_knows pass value g = omega arith

or_true : (a b : Bool) → b ≡ true → (a || b) ≡ true
or_true true b e = refl
or_true false b e = e

both_true : (a b : Bool) → a ≡ true → b ≡ true → (a && b) ≡ true
both_true true b e f = f
both_true false b e f = absurd (cc)

-- an entry of a gauge that isn't the clock is a duty
duty_listed : (shape : Shape) (gauge begun heard : ℕ) (o : Option Entry) (generation : ℕ) → gauge ≢ clock_of shape → IsEntry o generation → IsDuty (duty_of shape gauge begun heard o) generation
unfolding duty_of
duty_listed shape gauge begun heard None generation n e = e
duty_listed shape gauge begun heard (Some x) generation n e =
    subst (λ b. IsDuty (cond (not b || (nat_lt begun x.deadline && nat_le x.deadline heard)) (Some (record { gauge = gauge; generation = x.generation })) None) generation)
    (sym (ne_eqb gauge (clock_of shape) n)) e

-- so is one with a deadline past what was begun and at most what was heard
duty_due : (shape : Shape) (gauge begun heard deadline : ℕ) (o : Option Entry) (generation : ℕ)
    → ((entry : Entry) → o ≡ Some entry → entry.generation ≡ generation → entry.deadline ≡ deadline) → begun < deadline → deadline ≤ heard
    → IsEntry o generation → IsDuty (duty_of shape gauge begun heard o) generation
unfolding duty_of
duty_due shape gauge begun heard deadline None generation is l m e = e
duty_due shape gauge begun heard deadline (Some x) generation is l m e =
    let d : x.deadline ≡ deadline = is x refl e in
    let due : is_due shape gauge begun heard x ≡ true = or_true (not (gauge == clock_of shape)) _ (both_true _ _ (lt-ltb begun x.deadline (omega arith)) (le-leb x.deadline heard (omega arith))) in
    subst (λ b. IsDuty (cond b (Some (record { gauge = gauge; generation = x.generation })) None) generation) (sym due) e

-- a duty is an entry of the gauge
duty_from : (shape : Shape) (gauge begun heard : ℕ) (o : Option Entry) (duty : Duty) → duty_of shape gauge begun heard o ≡ Some duty → (duty.gauge ≡ gauge) × IsEntry o duty.generation
unfolding duty_of
duty_from shape gauge begun heard None duty = λ e. absurd (cc)
duty_from shape gauge begun heard (Some x) duty =
    of_either (λ y. y ≡ Some duty → (duty.gauge ≡ gauge) × (x.generation ≡ duty.generation)) (is_due shape gauge begun heard x)
    (Some (record { gauge = gauge; generation = x.generation })) None
    (λ t e. let z : record { gauge = gauge; generation = x.generation } ≡ duty = cc in (ap (λ d. d.gauge) (sym z), ap (λ d. d.generation) z))
    (λ t e. absurd (cc))

-- a gauge that isn't the clock is a shard's
shard_few : (shape : Shape) (k gauge : ℕ) → IsShape shape → scanner_of shape gauge ≡ k → gauge ≢ clock_of shape → k < 16
unfolding scanner_of
shard_few shape k gauge h e n =
    let q : gauge % (shape.scanners - 1) ≡ k = sym (ap (λ b. cond b 16 (gauge % (shape.scanners - 1))) (ne_eqb gauge (clock_of shape) n)) ∙ e in
    let some : 0 < shape.scanners - 1 = omega (arith, h.some_scanners) in
    omega (arith, h.few_scanners)

module _ (s : State) (k g : ℕ) (r : IsKept s) (can : CanBegin s k g) where
  heard : (s.scanner k).heard ≡ Some (record { gauge = g; number = (number_heard (s.scanner k).heard) })
  heard = heard_is (s.scanner k).heard g can.2

  asked : (number_heard (s.scanner k).heard) ≤ s.asked g
  asked = r.debts.heard k (record { gauge = g; number = (number_heard (s.scanner k).heard) }) heard

  own : IsGaugeOf s.shape k g
  own = (r.scanners k).heard (record { gauge = g; number = (number_heard (s.scanner k).heard) }) heard

  rises : (x : ℕ) → s.begun x ≤ (put s.begun g (max (s.begun g) (number_heard (s.scanner k).heard))) x
  rises = at-put s.begun g (max (s.begun g) (number_heard (s.scanner k).heard)) (λ x b. s.begun x ≤ b) (omega arith) (λ x n. omega arith)

  values : ValuesAreSound (beginning s k g)
  values = record {
    begun = at-put s.begun g (max (s.begun g) (number_heard (s.scanner k).heard)) (λ x b. b ≤ s.asked x) (omega (arith, asked, r.values.begun g)) (λ x n. r.values.begun x);
    asked = r.values.asked;
    stored = r.values.stored;
    loud = r.values.loud;
    own =
        at-put s.begun g (max (s.begun g) (number_heard (s.scanner k).heard)) (λ x b. IsGauge s.shape x → b ≡ ((put s.scanner k (scanner_begins s.shape (s.scanner k) g (s.begun g))) (scanner_of s.shape x)).began x)
        (λ i.
        subst (λ j. (max (s.begun g) (number_heard (s.scanner k).heard)) ≡ ((put s.scanner k (scanner_begins s.shape (s.scanner k) g (s.begun g))) j).began g) (sym own.scans)
        (subst (λ x. (max (s.begun g) (number_heard (s.scanner k).heard)) ≡ x.began g) (sym (put-same s.scanner k (scanner_begins s.shape (s.scanner k) g (s.begun g)))) (sym (put-same (s.scanner k).began g (max (s.begun g) (number_heard (s.scanner k).heard))))))
        (λ x n i.
        r.values.own x i ∙ at-put s.scanner k (scanner_begins s.shape (s.scanner k) g (s.begun g)) (λ j y. (s.scanner j).began x ≡ y.began x) (sym (put-other (s.scanner k).began g (max (s.begun g) (number_heard (s.scanner k).heard)) x n)) (λ j m. refl) (scanner_of s.shape x));
  }

  still_listed : (j gauge pass generation : ℕ) → IsEntry ((s.scanner j).listing gauge pass) generation → IsEntry (((put s.scanner k (scanner_begins s.shape (s.scanner k) g (s.begun g))) j).listing gauge pass) generation
  still_listed j gauge pass generation =
      at-put s.scanner k (scanner_begins s.shape (s.scanner k) g (s.begun g)) (λ i x. IsEntry ((s.scanner i).listing gauge pass) generation → IsEntry (x.listing gauge pass) generation) (λ e. e) (λ i n e. e) j

  generations : GenerationsAreSound (beginning s k g)
  generations = record {
    learned = λ j at word meeting.
        at-put s.scanner k (scanner_begins s.shape (s.scanner k) g (s.begun g)) (λ i x. x.meeting ≡ Some meeting → IsOpen s meeting.pass → (s.session meeting.pass).generation ≡ meeting.generation → x.learned at ≡ Some word → word ≡ s.description meeting.pass at)
        (λ m. absurd (cc)) (λ i n. r.generations.learned i at word meeting) j;
    meeting = λ j meeting.
        at-put s.scanner k (scanner_begins s.shape (s.scanner k) g (s.begun g)) (λ i x. x.meeting ≡ Some meeting → meeting.generation ≤ (s.session meeting.pass).generation)
        (λ m. absurd (cc)) (λ i n. r.generations.meeting i meeting) j;
    entry = λ j gauge pass entry.
        at-put s.scanner k (scanner_begins s.shape (s.scanner k) g (s.begun g)) (λ i x. x.listing gauge pass ≡ Some entry → entry.generation ≤ (s.session pass).generation)
        (r.generations.entry k gauge pass entry) (λ i n. r.generations.entry i gauge pass entry) j;
    mark = r.generations.mark;
    taken = r.generations.taken;
    untaken = r.generations.untaken;
    newest = λ j gauge meeting entry.
        at-put s.scanner k (scanner_begins s.shape (s.scanner k) g (s.begun g)) (λ i x. x.meeting ≡ Some meeting → x.listing gauge meeting.pass ≡ Some entry → entry.generation ≤ meeting.generation)
        (λ m. absurd (cc)) (λ i n. r.generations.newest i gauge meeting entry) j;
  }

  listings : ListingsAreSound (beginning s k g)
  listings = record {
    marked = λ pass i o l m. still_listed _ _ pass _ (r.listings.marked pass i o l m);
    seen = λ pass i o l m. still_listed _ _ pass _ (r.listings.seen pass i o l m);
    complete = λ pass i o l m. still_listed _ _ pass _ (r.listings.complete pass i o l m);
    right = λ j gauge pass entry o.
        at-put s.scanner k (scanner_begins s.shape (s.scanner k) g (s.begun g)) (λ i x. x.listing gauge pass ≡ Some entry → entry.generation ≡ (s.session pass).generation → IsRightEntry s gauge pass entry)
        (r.listings.right k gauge pass entry o) (λ i n. r.listings.right i gauge pass entry o) j;
  }

  -- who found an operation wasn't this scanner, which had no duty
  finds_still : (j pass generation : ℕ) (F : (ℕ → Option ℕ) → Type 0) → ScannerFinds F (s.scanner j) pass generation → ScannerFinds F ((put s.scanner k (scanner_begins s.shape (s.scanner k) g (s.begun g))) j) pass generation
  finds_still j pass generation F =
      at-put s.scanner k (scanner_begins s.shape (s.scanner k) g (s.begun g)) (λ i x. ScannerFinds F (s.scanner i) pass generation → ScannerFinds F x pass generation)
      (λ f. absurd (no_duty ((s.scanner k).duties pass) generation (can.3 pass) f.on_duty)) (λ i n f. f) j

  shard_still : (pass generation : ℕ) (F : (ℕ → Option ℕ) → Type 0) → ShardFinds F s.scanner pass generation → ShardFinds F (put s.scanner k (scanner_begins s.shape (s.scanner k) g (s.begun g))) pass generation
  shard_still pass generation F f = record { number = f.number; shard = f.shard; here = finds_still f.number pass generation F f.here }

  -- the listing of the gauge has an open operation whose owner isn't Listing
  listed : (pass i : ℕ) → (e : marked_gauge s.shape (s.description pass) i ≡ g) → IsListed s (marked_gauge s.shape (s.description pass) i) pass → IsEntry ((s.scanner k).listing g pass) (s.session pass).generation
  listed pass i e l =
      subst (λ j. IsEntry ((s.scanner j).listing g pass) (s.session pass).generation) own.scans (subst (λ x. IsListed s x pass) e l)

  tally_here : (pass need : ℕ) → IsOpen s pass → IsSatisfiedNow s pass → need < needs_of (s.description pass) → gauge_of (s.description pass) need ≡ g → IsFoundByTally (beginning s k g) pass
  tally_here pass need o sat within e =
      let op : IsOperation s.shape (s.description pass) = r.owners.operation pass (open_busy s pass r o) in
      let small : need < 64 = omega (arith, op.few) in
      let no_clock : g ≢ clock_of s.shape = λ c. absurd (omega (arith, op.gauges need within)) in
      ⊎_elim
      (λ (l : (s.caller pass).stage ≡ Listing).
      inl (record {
        on_duty = subst IsOnDuty (sym l) tt;
        found =
            let t : tally (s.description pass) s.value ≤ tally (s.description pass) (known (owner_readings (s.caller pass).stage (s.caller pass).readings) s.value) =
            tally_rises (s.description pass) s.value (known (owner_readings (s.caller pass).stage (s.caller pass).readings) s.value) (λ i m. owner_listing (s.caller pass).stage (s.caller pass).readings s.value _ l) in
            omega (arith, sat, t);
      }))
      (λ (n : (s.caller pass).stage ≢ Listing).
      inr (record {
        number = k;
        shard = shard_few s.shape k g r.shape own.scans no_clock;
        here = subst (λ x. ScannerFinds (FindsTally (s.description pass) s.value) x pass (s.session pass).generation) (sym (put-same s.scanner k (scanner_begins s.shape (s.scanner k) g (s.begun g)))) (record {
          on_duty = duty_listed s.shape g (s.begun g) (number_heard (s.scanner k).heard) ((s.scanner k).listing g pass) (s.session pass).generation no_clock
              (listed pass need (marked_need s.shape (s.description pass) need small ∙ e) (r.listings.complete pass need o n (inl within)));
          found =
              let t : tally (s.description pass) s.value ≤ tally (s.description pass) (known (met_readings None unread pass) s.value) =
              tally_rises (s.description pass) s.value (known (met_readings None unread pass) s.value) (λ i m. unmet_knows pass s.value _) in
              omega (arith, sat, t);
        });
      }))
      (listing_or (s.caller pass).stage)

  tallied : (pass : ℕ) → IsOpen s pass → IsSatisfiedNow s pass → ((i : ℕ) → i < needs_of (s.description pass) → s.value (gauge_of (s.description pass) i) ≤ (put s.begun g (max (s.begun g) (number_heard (s.scanner k).heard))) (gauge_of (s.description pass) i)) → IsFoundByTally (beginning s k g) pass
  tallied pass o sat settled =
      ⊎_elim
      (λ (f : IsFoundByTally s pass). either_too (λ x. x) (shard_still pass (s.session pass).generation (FindsTally (s.description pass) s.value)) f)
      (λ (l : IsLate (s.description pass) s.value s.begun).
      tally_here pass l.need o sat l.within
      (at-put s.begun g (max (s.begun g) (number_heard (s.scanner k).heard)) (λ x b. s.begun x < s.value x → s.value x ≤ b → x ≡ g) (λ a b. refl) (λ x n a b. absurd (omega arith))
      (gauge_of (s.description pass) l.need) l.late (settled l.need l.within)))
      (r.tally pass o sat)

  time_before : (pass : ℕ) → IsOpen s pass → deadline_of (s.description pass) ≤ s.begun (clock_of s.shape) → IsFoundByTime (beginning s k g) pass
  time_before pass o d = either_too (λ x. x) (finds_still 16 pass (s.session pass).generation (FindsTime s.shape (s.description pass) s.value)) (r.time pass o d)

  time_here : (pass : ℕ) → g ≡ clock_of s.shape → IsOpen s pass → s.begun g < deadline_of (s.description pass) → deadline_of (s.description pass) ≤ (number_heard (s.scanner k).heard) → IsFoundByTime (beginning s k g) pass
  time_here pass c o l m =
      let op : IsOperation s.shape (s.description pass) = r.owners.operation pass (open_busy s pass r o) in
      let now : deadline_of (s.description pass) ≤ s.value g = omega (arith, asked, r.values.asked g) in
      let there : deadline_of (s.description pass) ≤ s.value (clock_of s.shape) = subst (λ x. deadline_of (s.description pass) ≤ s.value x) c now in
      let sixteen : k ≡ 16 = sym own.scans ∙ ap (scanner_of s.shape) c ∙ (clock_own s.shape r.shape).scans in
      ⊎_elim
      (λ (e : (s.caller pass).stage ≡ Listing).
      inl (record {
        on_duty = subst IsOnDuty (sym e) tt;
        found = omega (arith, there, owner_listing (s.caller pass).stage (s.caller pass).readings s.value (clock_of s.shape) e);
      }))
      (λ (n : (s.caller pass).stage ≢ Listing).
      inr (subst (λ j. ScannerFinds (FindsTime s.shape (s.description pass) s.value) ((put s.scanner k (scanner_begins s.shape (s.scanner k) g (s.begun g))) j) pass (s.session pass).generation) sixteen
      (subst (λ x. ScannerFinds (FindsTime s.shape (s.description pass) s.value) x pass (s.session pass).generation) (sym (put-same s.scanner k (scanner_begins s.shape (s.scanner k) g (s.begun g)))) (record {
        on_duty =
            duty_due s.shape g (s.begun g) (number_heard (s.scanner k).heard) (deadline_of (s.description pass)) ((s.scanner k).listing g pass) (s.session pass).generation
            (λ entry e q.
            ⊎_elim
            (λ (needed : IsNeeded (s.description pass) g). absurd (omega (arith, op.gauges needed.need needed.within, needed.is)))
            (λ (right : (g ≡ clock_of s.shape) × (entry.deadline ≡ deadline_of (s.description pass))). right.1)
            (r.listings.right k g pass entry o e q))
            l m (listed pass 64 (marked_clock s.shape (s.description pass) 64 refl ∙ sym c) (r.listings.complete pass 64 o n (inr refl)));
        found = omega (arith, there, unmet_knows pass s.value (clock_of s.shape));
      }))))
      (listing_or (s.caller pass).stage)

  timed : (pass : ℕ) → IsOpen s pass → deadline_of (s.description pass) ≤ (put s.begun g (max (s.begun g) (number_heard (s.scanner k).heard))) (clock_of s.shape) → IsFoundByTime (beginning s k g) pass
  timed pass o =
      at-put s.begun g (max (s.begun g) (number_heard (s.scanner k).heard)) (λ x b. x ≡ clock_of s.shape → deadline_of (s.description pass) ≤ b → IsFoundByTime (beginning s k g) pass)
      (λ c d.
      ⊎_elim
      (λ (l : s.begun g < deadline_of (s.description pass)). time_here pass c o l (omega arith))
      (λ (l : deadline_of (s.description pass) ≤ s.begun g). time_before pass o (subst (λ x. deadline_of (s.description pass) ≤ s.begun x) c l))
      (cases_lt (s.begun g) (deadline_of (s.description pass))))
      (λ x n c d. time_before pass o (subst (λ y. deadline_of (s.description pass) ≤ s.begun y) c d))
      (clock_of s.shape) refl

  begins : ScannerIsKept s.shape k (scanner_begins s.shape (s.scanner k) g (s.begun g))
  begins = record {
    heard = (r.scanners k).heard;
    entry = (r.scanners k).entry;
    duty = λ q duty e.
        let f : (duty.gauge ≡ g) × IsEntry ((s.scanner k).listing g q) duty.generation = duty_from s.shape g (s.begun g) (number_heard (s.scanner k).heard) ((s.scanner k).listing g q) duty e in
        subst (λ x. IsEntry ((s.scanner k).listing x q) duty.generation) (sym f.0) f.1;
    one_gauge = λ q j duty more e f.
        (duty_from s.shape g (s.begun g) (number_heard (s.scanner k).heard) ((s.scanner k).listing g q) duty e).0
        ∙ sym (duty_from s.shape g (s.begun g) (number_heard (s.scanner k).heard) ((s.scanner k).listing g j) more f).0;
    met = λ gauge meeting entry m. absurd (cc);
  }

  pub kept : IsKept (beginning s k g)
  kept = record {
    shape = r.shape;
    values = values;
    debts = record {
      owed = r.debts.owed;
      heard = λ j h.
          at-put s.scanner k (scanner_begins s.shape (s.scanner k) g (s.begun g)) (λ i x. x.heard ≡ Some h → h.number ≤ s.asked h.gauge) (r.debts.heard k h) (λ i n. r.debts.heard i h) j;
      someone = λ x l. r.debts.someone x (omega (arith, rises x));
    };
    readings = record {
      greatest = r.readings.greatest;
      owner = r.readings.owner;
      scanner = at-put s.scanner k (scanner_begins s.shape (s.scanner k) g (s.begun g)) (λ i x. (gauge value : ℕ) → x.readings gauge ≡ Some value → value ≤ s.value gauge) (unread_below s.value) (λ i n. r.readings.scanner i);
    };
    owners = r.owners;
    generations = generations;
    listings = listings;
    tally = λ pass o sat. late_or _ _ _ (tallied pass o sat);
    time = timed;
    opened = r.opened;
    scanners = at-put s.scanner k (scanner_begins s.shape (s.scanner k) g (s.begun g)) (λ i x. ScannerIsKept s.shape i x) begins (λ i n. r.scanners i);
  }

pub keeps : (s : State) (scanner gauge : ℕ) → IsUpheld s → CanBegin s scanner gauge → IsUpheld (beginning s scanner gauge)
keeps s scanner gauge c can =
    let w : WinsAreSound (record s { scanner = put s.scanner scanner (scanner_begins s.shape (s.scanner scanner) gauge (s.begun gauge)) }) = scanner_wins_nothing s scanner _ refl c.sound.wins in
    carried _ (kept s scanner gauge (kept_of s c) can) (record { counted = w.counted; once = w.once })
