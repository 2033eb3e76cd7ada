-- Win, by a scanner: the operation of its duty is open no more.
use Rattle.std.proofs.Common.{⊎_elim, ◌≡◌, ◌≢◌, ℕ, ◌+◌, ◌-◌, ◌<◌, [], ◌∷◌, ◌++◌, true, false, cond, sym, ap, refl, subst, ◌∙◌, arith, Option, Some, None}
use Rattle.std.specs.Prelude.{◌==◌, ◌&&◌}
use Rattle.std.proofs.lemmas.Bool.{cases_Bool, eq-eqb, ne_eqb}
use Rattle.room_core.specs.declared.event.How.{How}
use Rattle.room_core.specs.declared.parts.Phase.TheVariants.{Open, Won}
use Rattle.room_core.specs.declared.parts.Session.{Session}
use Rattle.room_core.specs.declared.parts.Entry.{Entry}
use Rattle.room_core.specs.declared.parts.Duty.{Duty}
use Rattle.room_core.specs.declared.shape.Shape.{Shape}
use Rattle.room_core.specs.Put.{put}
use Rattle.room_core.specs.Gauges.{IsScanner, IsShape}
use Rattle.room_core.specs.Readings.{unread}
use Rattle.room_core.specs.Duty.{IsOpen, met_readings}
use Rattle.room_core.specs.Sound.{IsEntry}
use Rattle.room_core.specs.Meetings.{is_live, is_open, generation_met}
use Rattle.room_core.specs.Wins.{prizes_as, taken_as, won_as, wins_of}
use Rattle.room_core.specs.Checks.{CanWinScanner, scanner_winning, scanner_wins, exchanged, other_entry, gauge_of_duty, IsDuty}
use Rattle.room_core.specs.Carried.{IsUpheld}
use Rattle.room_core.specs.State.{State}
use Rattle.room_core.proofs.Facts.{WinsAreSound}
use Rattle.room_core.proofs.Puts.{at-put, put-same, at-place}
use Rattle.room_core.proofs.Known.{of_either, unread_below, met_forgets}
use Rattle.room_core.proofs.Finding.{tally_knows, time_knows}
use Rattle.room_core.proofs.Dropping.{dropped, duty_is}
use Rattle.room_core.proofs.Words.{kept_by_exchange, with_session, exchanged_or}
use Rattle.room_core.proofs.Kept.{IsKept, kept_of, carried}
use Rattle.room_core.proofs.Scanners.{ScannerStays, kept_by_scanner}
use Rattle.room_core.proofs.Winners.{wins_of-same}
use Rattle.room_core.proofs.Prizes.{wins_of-scanner, wins_of-but_scanner, prize_made, no_prize, not_exchanged, prize_counted, won_once}

-- after an exchange that was tried the word isn't open at that generation
pub not_live : (w : Session) (generation : ℕ) (how : How) (by : ℕ) → (exchanged w generation how by).phase ≡ Open → (exchanged w generation how by).generation ≡ generation → ⊥
not_live w generation how by o g =
    ⊎_elim
    (λ (e : (is_live w generation ≡ true) × (exchanged w generation how by ≡ record { generation = w.generation; phase = Won how by })).
    let p : (exchanged w generation how by).phase ≡ Won how by = ap (λ x. x.phase) e.1 in absurd (cc))
    (λ (e : (is_live w generation ≡ false) × (exchanged w generation how by ≡ w)).
    let p : w.phase ≡ Open = sym (ap (λ x. x.phase) e.1) ∙ o in
    let q : w.generation ≡ generation = sym (ap (λ x. x.generation) e.1) ∙ g in
    let live : is_live w generation ≡ true = ap (λ b. is_open b && (w.generation == generation)) p ∙ eq-eqb w.generation generation q in
    absurd (cc))
    (exchanged_or w generation how by)

pub other_was : (o : Option Entry) (generation : ℕ) (entry : Entry) → other_entry o generation ≡ Some entry → o ≡ Some entry
unfolding other_entry
other_was None generation entry = λ e. e
other_was (Some x) generation entry =
    of_either (λ y. y ≡ Some entry → Some x ≡ Some entry) (x.generation == generation) None (Some x) (λ t e. absurd (cc)) (λ t e. e)

pub other_stays : (o : Option Entry) (generation g : ℕ) → g ≢ generation → IsEntry o g → IsEntry (other_entry o generation) g
unfolding other_entry
other_stays None generation g n e = e
other_stays (Some x) generation g n e =
    subst (λ b. IsEntry (cond b None (Some x)) g) (sym (ne_eqb x.generation generation (λ q. n (sym e ∙ q)))) e

pub scanner_few : (shape : Shape) (k : ℕ) → IsShape shape → IsScanner shape k → k < 17
scanner_few shape k h is = ⊎_elim (λ (l : k < shape.scanners - 1). omega (arith, h.few_scanners)) (λ (e : k ≡ 16). omega arith) is

module _ (s : State) (k p : ℕ) (how : How) (r : IsKept s) (can : CanWinScanner s k p how) where
  middle : IsKept (with_session s p (exchanged (s.session p) (generation_met (s.scanner k).meeting) how k))
  middle = kept_by_exchange s p (generation_met (s.scanner k).meeting) how k r

  here : put s.session p (exchanged (s.session p) (generation_met (s.scanner k).meeting) how k) p ≡ (exchanged (s.session p) (generation_met (s.scanner k).meeting) how k)
  here = put-same s.session p (exchanged (s.session p) (generation_met (s.scanner k).meeting) how k)

  -- the operation that was met is open no more
  closed : IsOpen (with_session s p (exchanged (s.session p) (generation_met (s.scanner k).meeting) how k)) p → (put s.session p (exchanged (s.session p) (generation_met (s.scanner k).meeting) how k) p).generation ≡ (generation_met (s.scanner k).meeting) → ⊥
  closed o g = not_live (s.session p) (generation_met (s.scanner k).meeting) how k (subst (λ w. w.phase ≡ Open) here o) (subst (λ w. w.generation ≡ (generation_met (s.scanner k).meeting)) here g)

  entry_before : (gauge q : ℕ) (entry : Entry) → (scanner_wins (s.scanner k) p how (s.session p)).listing gauge q ≡ Some entry → (s.scanner k).listing gauge q ≡ Some entry
  entry_before gauge q entry =
      at-place (s.scanner k).listing (gauge_of_duty ((s.scanner k).duties p)) p (other_entry ((s.scanner k).listing (gauge_of_duty ((s.scanner k).duties p)) p) (generation_met (s.scanner k).meeting)) (λ h j o. o ≡ Some entry → (s.scanner k).listing h j ≡ Some entry)
      (other_was ((s.scanner k).listing (gauge_of_duty ((s.scanner k).duties p)) p) (generation_met (s.scanner k).meeting) entry) (λ h j e. e) gauge q

  entries_stay : (gauge q generation : ℕ) → (q ≡ p → generation ≢ (generation_met (s.scanner k).meeting)) → IsEntry ((s.scanner k).listing gauge q) generation → IsEntry ((scanner_wins (s.scanner k) p how (s.session p)).listing gauge q) generation
  entries_stay gauge q generation n =
      at-place (s.scanner k).listing (gauge_of_duty ((s.scanner k).duties p)) p (other_entry ((s.scanner k).listing (gauge_of_duty ((s.scanner k).duties p)) p) (generation_met (s.scanner k).meeting)) (λ h j o. (j ≡ p → generation ≢ (generation_met (s.scanner k).meeting)) → IsEntry ((s.scanner k).listing h j) generation → IsEntry o generation)
      (λ m e. other_stays ((s.scanner k).listing (gauge_of_duty ((s.scanner k).duties p)) p) (generation_met (s.scanner k).meeting) generation (m refl) e) (λ h j m e. e) gauge q n

  duties_stay : (q : ℕ) → IsOpen (with_session s p (exchanged (s.session p) (generation_met (s.scanner k).meeting) how k)) q → IsDuty ((s.scanner k).duties q) (put s.session p (exchanged (s.session p) (generation_met (s.scanner k).meeting) how k) q).generation → IsDuty (put (s.scanner k).duties p None q) (put s.session p (exchanged (s.session p) (generation_met (s.scanner k).meeting) how k) q).generation
  duties_stay =
      at-put (s.scanner k).duties p None (λ j d. IsOpen (with_session s p (exchanged (s.session p) (generation_met (s.scanner k).meeting) how k)) j → IsDuty ((s.scanner k).duties j) (put s.session p (exchanged (s.session p) (generation_met (s.scanner k).meeting) how k) j).generation → IsDuty d (put s.session p (exchanged (s.session p) (generation_met (s.scanner k).meeting) how k) j).generation)
      (λ o d. absurd (closed o (duty_is ((s.scanner k).duties p) _ _ d can.2.duty))) (λ j n o d. d)

  other_duty : (q : ℕ) (duty : Duty) → put (s.scanner k).duties p None q ≡ Some duty → q ≢ p
  other_duty q duty = at-put (s.scanner k).duties p None (λ j o. o ≡ Some duty → j ≢ p) (λ e. absurd (cc)) (λ j n e. n) q

  stays : ScannerStays (with_session s p (exchanged (s.session p) (generation_met (s.scanner k).meeting) how k)) k (scanner_wins (s.scanner k) p how (s.session p))
  stays = record {
    began = λ g. refl;
    heard = middle.debts.heard k;
    readings = unread_below s.value;
    learned = λ at w meeting m. absurd (cc);
    meeting = λ meeting m. absurd (cc);
    entry = λ gauge q entry e. middle.generations.entry k gauge q entry (entry_before gauge q entry e);
    live = λ gauge q o.
        entries_stay gauge q (put s.session p (exchanged (s.session p) (generation_met (s.scanner k).meeting) how k) q).generation
        (λ e g. closed (subst (IsOpen (with_session s p (exchanged (s.session p) (generation_met (s.scanner k).meeting) how k))) e o) (subst (λ j. (put s.session p (exchanged (s.session p) (generation_met (s.scanner k).meeting) how k) j).generation ≡ (generation_met (s.scanner k).meeting)) e g));
    right = λ gauge q entry o e. middle.listings.right k gauge q entry o (entry_before gauge q entry e);
    tally = λ q b o f. record {
      on_duty = duties_stay q o f.on_duty;
      found = tally_knows (s.description q) s.value s.value (met_readings (s.scanner k).meeting (s.scanner k).readings q) (met_readings None unread q) (met_forgets (s.scanner k).meeting None q (s.scanner k).readings s.value (r.readings.scanner k)) f.found;
    };
    time = λ q b o f. record {
      on_duty = duties_stay q o f.on_duty;
      found = time_knows s.shape (s.description q) s.value s.value (met_readings (s.scanner k).meeting (s.scanner k).readings q) (met_readings None unread q) (met_forgets (s.scanner k).meeting None q (s.scanner k).readings s.value (r.readings.scanner k)) f.found;
    };
    kept = record {
      heard = (r.scanners k).heard;
      entry = λ gauge q entry e. (r.scanners k).entry gauge q entry (entry_before gauge q entry e);
      duty = λ q duty d.
          entries_stay duty.gauge q duty.generation (λ e. absurd (other_duty q duty d e))
          ((r.scanners k).duty q duty (dropped (s.scanner k).duties p q duty d));
      one_gauge = λ q j duty more d e. (r.scanners k).one_gauge q j duty more (dropped (s.scanner k).duties p q duty d) (dropped (s.scanner k).duties p j more e);
      met = λ g meeting entry m. absurd (cc);
    };
  }

  pub kept : IsKept (scanner_winning s k p how)
  kept = kept_by_scanner (with_session s p (exchanged (s.session p) (generation_met (s.scanner k).meeting) how k)) k (scanner_wins (s.scanner k) p how (s.session p)) middle stays

  few : k < 17
  few = scanner_few s.shape k r.shape can.0

  counted : WinsAreSound s → (by pass generation : ℕ) (way : How) → prizes_as (wins_of (put s.scanner k (scanner_wins (s.scanner k) p how (s.session p))) s.caller by) pass generation way
      ≡ taken_as (s.caller pass).taken generation way by + won_as (put s.session p (exchanged (s.session p) (generation_met (s.scanner k).meeting) how k) pass) generation way by
  counted w by pass generation way =
      ⊎_elim
      (λ (live : is_live (s.session p) (generation_met (s.scanner k).meeting) ≡ true).
      prize_counted s.session p k how (generation_met (s.scanner k).meeting) live (wins_of s.scanner s.caller) (wins_of (put s.scanner k (scanner_wins (s.scanner k) p how (s.session p))) s.caller)
      (λ q. (s.caller q).taken) w.counted
      (wins_of-scanner (put s.scanner k (scanner_wins (s.scanner k) p how (s.session p))) s.caller k few ∙ ap (λ c. c.wins) (put-same s.scanner k (scanner_wins (s.scanner k) p how (s.session p)))
      ∙ prize_made (s.session p) (generation_met (s.scanner k).meeting) (s.scanner k).wins (record { pass = p; generation = generation_met (s.scanner k).meeting; how = how }) live
      ∙ ap (λ x. x ++ record { pass = p; generation = generation_met (s.scanner k).meeting; how = how } ∷ []) (sym (wins_of-scanner s.scanner s.caller k few)))
      (wins_of-but_scanner s.scanner s.caller k (scanner_wins (s.scanner k) p how (s.session p)))
      by pass generation way)
      (λ (dead : is_live (s.session p) (generation_met (s.scanner k).meeting) ≡ false).
      ap (λ x. prizes_as x pass generation way)
      (wins_of-same s.scanner (put s.scanner k (scanner_wins (s.scanner k) p how (s.session p))) s.caller s.caller
      (at-put s.scanner k (scanner_wins (s.scanner k) p how (s.session p)) (λ q c. c.wins ≡ (s.scanner q).wins) (no_prize (s.session p) (generation_met (s.scanner k).meeting) (s.scanner k).wins (record { pass = p; generation = generation_met (s.scanner k).meeting; how = how }) dead) (λ q n. refl)) (λ j. refl) by)
      ∙ w.counted by pass generation way
      ∙ ap (λ n. taken_as (s.caller pass).taken generation way by + n)
      (at-put s.session p (exchanged (s.session p) (generation_met (s.scanner k).meeting) how k) (λ q x. won_as (s.session q) generation way by ≡ won_as x generation way by)
      (ap (λ x. won_as x generation way by) (sym (not_exchanged (s.session p) (generation_met (s.scanner k).meeting) how k dead))) (λ q n. refl) pass))
      (cases_Bool (is_live (s.session p) (generation_met (s.scanner k).meeting)))

  wins : WinsAreSound s → WinsAreSound (scanner_winning s k p how)
  wins w = record {
    counted = counted w;
    once = won_once s p (generation_met (s.scanner k).meeting) how k r w;
  }

pub keeps : (s : State) (scanner pass : ℕ) (how : How) → IsUpheld s → CanWinScanner s scanner pass how → IsUpheld (scanner_winning s scanner pass how)
keeps s scanner pass how c can = carried _ (kept s scanner pass how (kept_of s c) can) (wins s scanner pass how (kept_of s c) can c.sound.wins)
