-- Leave, by a scanner: with all wanted readings taken, who leaves didn't find the operation.
use Rattle.std.proofs.Common.{◌≡◌, ℕ, ◌+◌, ◌*◌, ◌<◌, ◌≤◌, true, false, cond, sym, refl, subst, arith, Option, Some, None}
use Rattle.std.proofs.lemmas.Bool.{leb-false, eq-eqb, ne_eqb}
use Rattle.room_core.specs.Put.{put}
use Rattle.room_core.specs.Gauges.{clock_of}
use Rattle.room_core.specs.Description.{needs_of, deadline_of}
use Rattle.room_core.specs.Readings.{known, read_only, unread}
use Rattle.room_core.specs.Duty.{IsOpen, ScannerFinds, FindsTally, FindsTime, met_readings}
use Rattle.room_core.specs.Meetings.{words_of}
use Rattle.room_core.specs.Checks.{CanLeaveScanner, scanner_leaving, scanner_leaves, scanner_answers, scanner_takes, scanner_lets_go, is_satisfied, is_overdue, IsDuty}
use Rattle.room_core.specs.Carried.{IsUpheld}
use Rattle.room_core.specs.State.{State}
use Rattle.room_core.proofs.Puts.{at-put}
use Rattle.room_core.proofs.Known.{of_either, unread_below, taken_below, known_taken, met_takes, met_forgets}
use Rattle.room_core.proofs.Dropping.{dropped, duty_is, met_is, learned_is}
use Rattle.room_core.proofs.Finding.{tally_knows, time_knows, scanner_tally, scanner_time}
use Rattle.room_core.proofs.Kept.{IsKept, kept_of, carried}
use Rattle.room_core.proofs.PassLeaving.{not_satisfied, not_overdue}
use Rattle.room_core.proofs.Scanners.{ScannerStays, kept_by_scanner}
use Rattle.room_core.proofs.Winners.{scanner_wins_nothing}

module _ (s : State) (k pass gauge : ℕ) (r : IsKept s) (can : CanLeaveScanner s k pass gauge) where
  knows : (q g : ℕ) → known (met_readings (s.scanner k).meeting (s.scanner k).readings q) s.value g ≤ known (met_readings (s.scanner k).meeting (put (s.scanner k).readings gauge (Some (s.value gauge))) q) s.value g
  knows q =
      met_takes (s.scanner k).meeting q true (s.scanner k).readings (put (s.scanner k).readings gauge (Some (s.value gauge))) s.value
      (known_taken (s.scanner k).readings s.value gauge (r.readings.scanner k))

  taking : ScannerStays s k (scanner_takes (s.scanner k) gauge (s.value gauge))
  taking = record {
    began = λ g. refl;
    heard = r.debts.heard k;
    readings = taken_below (s.scanner k).readings s.value gauge (r.readings.scanner k);
    learned = r.generations.learned k;
    meeting = r.generations.meeting k;
    entry = r.generations.entry k;
    live = λ g q o e. e;
    right = r.listings.right k;
    tally = λ q b o. scanner_tally s.shape (s.description q) s.value (s.scanner k) (scanner_takes (s.scanner k) gauge (s.value gauge)) q _ (λ d. d) (knows q);
    time = λ q b o. scanner_time s.shape (s.description q) s.value (s.scanner k) (scanner_takes (s.scanner k) gauge (s.value gauge)) q _ (λ d. d) (knows q);
    kept = record {
      heard = (r.scanners k).heard;
      entry = (r.scanners k).entry;
      duty = (r.scanners k).duty;
      one_gauge = (r.scanners k).one_gauge;
      met = (r.scanners k).met;
    };
  }

  -- the duty is on the operation that was met and learned
  same : IsOpen s pass → IsDuty ((s.scanner k).duties pass) (s.session pass).generation → (at : ℕ) → at < 3 + 3 * needs_of (words_of (s.scanner k)) → words_of (s.scanner k) at ≡ s.description pass at
  same o d at l =
      learned_is s k pass at r can.3.met o (duty_is ((s.scanner k).duties pass) _ _ d can.3.duty) (can.3.learned.words at l)

  readings_are : (F : (ℕ → Option ℕ) → Type 0) → F (met_readings (s.scanner k).meeting (s.scanner k).readings pass) → F (s.scanner k).readings
  readings_are F = subst F (met_is (s.scanner k).meeting pass (s.scanner k).readings can.3.met)

  unsatisfied : scanner_answers s.shape k (words_of (s.scanner k)) (put (s.scanner k).readings gauge (Some (s.value gauge))) ≡ false → k < 16 → IsOpen s pass
      → ScannerFinds (FindsTally (s.description pass) s.value) (s.scanner k) pass (s.session pass).generation → ⊥
  unsatisfied e b o f =
      not_satisfied (s.description pass) (words_of (s.scanner k)) s.value (s.scanner k).readings gauge (r.readings.scanner k)
      (same o f.on_duty) (can.4 (λ q. absurd (omega arith)))
      (subst (λ t. cond t (is_overdue s.shape (words_of (s.scanner k)) (put (s.scanner k).readings gauge (Some (s.value gauge)))) (is_satisfied (words_of (s.scanner k)) (put (s.scanner k).readings gauge (Some (s.value gauge)))) ≡ false) (ne_eqb k 16 (λ q. absurd (omega arith))) e)
      (readings_are (FindsTally (s.description pass) s.value) f.found)

  in_time : scanner_answers s.shape k (words_of (s.scanner k)) (put (s.scanner k).readings gauge (Some (s.value gauge))) ≡ false → k ≡ 16 → IsOpen s pass
      → ScannerFinds (FindsTime s.shape (s.description pass) s.value) (s.scanner k) pass (s.session pass).generation → ⊥
  in_time e b o f =
      let d : deadline_of (words_of (s.scanner k)) ≤ read_only (put (s.scanner k).readings gauge (Some (s.value gauge))) (clock_of s.shape) =
      not_overdue (clock_of s.shape) (s.description pass) (words_of (s.scanner k)) s.value (s.scanner k).readings gauge (r.readings.scanner k)
      (same o f.on_duty 1 (omega arith)) (can.5 b) (readings_are (FindsTime s.shape (s.description pass) s.value) f.found) in
      let n : is_overdue s.shape (words_of (s.scanner k)) (put (s.scanner k).readings gauge (Some (s.value gauge))) ≡ false =
      subst (λ t. cond t (is_overdue s.shape (words_of (s.scanner k)) (put (s.scanner k).readings gauge (Some (s.value gauge)))) (is_satisfied (words_of (s.scanner k)) (put (s.scanner k).readings gauge (Some (s.value gauge)))) ≡ false) (eq-eqb k 16 b) e in
      omega (arith, d, leb-false (deadline_of (words_of (s.scanner k))) (read_only (put (s.scanner k).readings gauge (Some (s.value gauge))) (clock_of s.shape)) n)

  still : (q : ℕ) → (F : (ℕ → Option ℕ) → Type 0) → (q ≡ pass → ScannerFinds F (s.scanner k) q (s.session q).generation → ⊥)
      → ScannerFinds F (s.scanner k) q (s.session q).generation → IsDuty (put (s.scanner k).duties pass None q) (s.session q).generation
  still q F never f =
      at-put (s.scanner k).duties pass None (λ j d. j ≡ q → IsDuty ((s.scanner k).duties j) (s.session q).generation → IsDuty d (s.session q).generation)
      (λ e d. absurd (never (sym e) f)) (λ j n e d. d) q refl f.on_duty

  letting_go : scanner_answers s.shape k (words_of (s.scanner k)) (put (s.scanner k).readings gauge (Some (s.value gauge))) ≡ false → ScannerStays s k (scanner_lets_go (s.scanner k) pass)
  letting_go e = record {
    began = λ g. refl;
    heard = r.debts.heard k;
    readings = unread_below s.value;
    learned = λ at word meeting m. absurd (cc);
    meeting = λ meeting m. absurd (cc);
    entry = r.generations.entry k;
    live = λ g q o x. x;
    right = r.listings.right k;
    tally = λ q b o f. record {
      on_duty = still q (FindsTally (s.description q) s.value) (λ p g. unsatisfied e b (subst (IsOpen s) p o) (subst (λ j. ScannerFinds (FindsTally (s.description j) s.value) (s.scanner k) j (s.session j).generation) p g)) f;
      found = tally_knows (s.description q) s.value s.value (met_readings (s.scanner k).meeting (s.scanner k).readings q) (met_readings None unread q) (met_forgets (s.scanner k).meeting None q (s.scanner k).readings s.value (r.readings.scanner k)) f.found;
    };
    time = λ q b o f. record {
      on_duty = still q (FindsTime s.shape (s.description q) s.value) (λ p g. in_time e b (subst (IsOpen s) p o) (subst (λ j. ScannerFinds (FindsTime s.shape (s.description j) s.value) (s.scanner k) j (s.session j).generation) p g)) f;
      found = time_knows s.shape (s.description q) s.value s.value (met_readings (s.scanner k).meeting (s.scanner k).readings q) (met_readings None unread q) (met_forgets (s.scanner k).meeting None q (s.scanner k).readings s.value (r.readings.scanner k)) f.found;
    };
    kept = record {
      heard = (r.scanners k).heard;
      entry = (r.scanners k).entry;
      duty = λ q d x. (r.scanners k).duty q d (dropped (s.scanner k).duties pass q d x);
      one_gauge = λ q j d x y z. (r.scanners k).one_gauge q j d x (dropped (s.scanner k).duties pass q d y) (dropped (s.scanner k).duties pass j x z);
      met = λ g meeting entry m. absurd (cc);
    };
  }

  pub stays : ScannerStays s k (scanner_leaves s.shape k (s.scanner k) pass gauge (s.value gauge))
  stays =
      of_either (ScannerStays s k) (scanner_answers s.shape k (words_of (s.scanner k)) (put (s.scanner k).readings gauge (Some (s.value gauge))))
      (scanner_takes (s.scanner k) gauge (s.value gauge)) (scanner_lets_go (s.scanner k) pass) (λ e. taking) letting_go

pub keeps : (s : State) (scanner pass gauge : ℕ) → IsUpheld s → CanLeaveScanner s scanner pass gauge → IsUpheld (scanner_leaving s scanner pass gauge)
keeps s scanner pass gauge c can =
    carried _ (kept_by_scanner s scanner _ (kept_of s c) (stays s scanner pass gauge (kept_of s c) can))
    (scanner_wins_nothing s scanner _
    (of_either (λ x. x.wins ≡ (s.scanner scanner).wins) (scanner_answers s.shape scanner (words_of (s.scanner scanner)) (put (s.scanner scanner).readings gauge (Some (s.value gauge))))
    (scanner_takes (s.scanner scanner) gauge (s.value gauge)) (scanner_lets_go (s.scanner scanner) pass) (λ e. refl) (λ e. refl))
    c.sound.wins)
