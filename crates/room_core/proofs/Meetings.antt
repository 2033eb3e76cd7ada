-- Meet: only entries and duties go that aren't of the open generation.
use Rattle.std.proofs.Common.{◌≡◌, ℕ, ◌≤◌, true, cond, sym, ap, refl, subst, ◌∙◌, arith, Option, Some, None}
use Rattle.std.specs.Prelude.{◌&&◌, ◌==◌}
use Rattle.std.proofs.lemmas.Bool.{eq-eqb}
use Rattle.room_core.specs.declared.parts.Phase.TheVariants.{Open}
use Rattle.room_core.specs.declared.parts.Session.{Session}
use Rattle.room_core.specs.declared.parts.Entry.{Entry}
use Rattle.room_core.specs.declared.parts.Duty.{Duty}
use Rattle.room_core.specs.declared.parts.Meeting.{Meeting}
use Rattle.room_core.specs.Readings.{known, unread}
use Rattle.room_core.specs.Duty.{IsOpen, met_readings}
use Rattle.room_core.specs.Sound.{IsEntry}
use Rattle.room_core.specs.Checks.{IsDuty}
use Rattle.room_core.specs.Meetings.{CanMeet, scanner_meeting, scanner_meets, met, live_entry, live_duty, is_live, is_open}
use Rattle.room_core.specs.Carried.{IsUpheld}
use Rattle.room_core.specs.State.{State}
use Rattle.room_core.proofs.Puts.{at-put}
use Rattle.room_core.proofs.Tests.{open_phase, live_generation}
use Rattle.room_core.proofs.Known.{unread_below, met_forgets, of_either}
use Rattle.room_core.proofs.Finding.{scanner_tally, scanner_time}
use Rattle.room_core.proofs.Kept.{IsKept, kept_of, carried}
use Rattle.room_core.proofs.Scanners.{ScannerStays, kept_by_scanner}
use Rattle.room_core.proofs.Winners.{scanner_wins_nothing}

-- the meeting is of the pass, at the open generation
pub met_as : (w : Session) (pass : ℕ) (meeting : Meeting) → met w pass ≡ Some meeting → (w.phase ≡ Open) × (meeting ≡ record { pass = pass; generation = w.generation })
unfolding met
met_as w pass meeting =
    of_either (λ o. o ≡ Some meeting → (w.phase ≡ Open) × (meeting ≡ record { pass = pass; generation = w.generation })) (is_open w.phase)
    (Some (record { pass = pass; generation = w.generation })) None
    (λ e q. (open_phase w.phase e, cc))
    (λ e q. absurd (cc))

-- what is live was there, at the open generation
pub entry_lives : (w : Session) (o : Option Entry) (entry : Entry) → live_entry w o ≡ Some entry → (o ≡ Some entry) × (is_live w entry.generation ≡ true)
unfolding live_entry
entry_lives w None entry = λ q. absurd (cc)
entry_lives w (Some x) entry =
    of_either (λ y. y ≡ Some entry → (Some x ≡ Some entry) × (is_live w entry.generation ≡ true)) (is_live w x.generation) (Some x) None
    (λ e q. let z : x ≡ entry = cc in (q, subst (λ y. is_live w y.generation ≡ true) z e)) (λ e q. absurd (cc))

pub duty_lives : (w : Session) (o : Option Duty) (duty : Duty) → live_duty w o ≡ Some duty → (o ≡ Some duty) × (is_live w duty.generation ≡ true)
unfolding live_duty
duty_lives w None duty = λ q. absurd (cc)
duty_lives w (Some x) duty =
    of_either (λ y. y ≡ Some duty → (Some x ≡ Some duty) × (is_live w duty.generation ≡ true)) (is_live w x.generation) (Some x) None
    (λ e q. let z : x ≡ duty = cc in (q, subst (λ y. is_live w y.generation ≡ true) z e)) (λ e q. absurd (cc))

-- what is of a live generation stays
pub entry_stays : (w : Session) (o : Option Entry) (generation : ℕ) → is_live w generation ≡ true → IsEntry o generation → IsEntry (live_entry w o) generation
unfolding live_entry
entry_stays w None generation l e = e
entry_stays w (Some x) generation l e =
    subst (λ b. IsEntry (cond b (Some x) None) generation) (sym (subst (λ g. is_live w g ≡ true) (sym e) l)) e

pub duty_stays : (w : Session) (o : Option Duty) (generation : ℕ) → is_live w generation ≡ true → IsDuty o generation → IsDuty (live_duty w o) generation
unfolding live_duty
duty_stays w None generation l e = e
duty_stays w (Some x) generation l e =
    subst (λ b. IsDuty (cond b (Some x) None) generation) (sym (subst (λ g. is_live w g ≡ true) (sym e) l)) e

pub open_lives : (w : Session) → w.phase ≡ Open → is_live w w.generation ≡ true
open_lives w o = subst (λ b. (b && (w.generation == w.generation)) ≡ true) (sym (ap is_open o)) (eq-eqb w.generation w.generation refl)

module _ (s : State) (k pass : ℕ) (r : IsKept s) where
  entry_before : (gauge q : ℕ) (entry : Entry) → (scanner_meets (s.scanner k) pass (s.session pass)).listing gauge q ≡ Some entry → (s.scanner k).listing gauge q ≡ Some entry
  entry_before gauge q entry =
      at-put ((s.scanner k).listing gauge) pass (live_entry (s.session pass) ((s.scanner k).listing gauge pass)) (λ j o. o ≡ Some entry → (s.scanner k).listing gauge j ≡ Some entry)
      (λ e. (entry_lives (s.session pass) ((s.scanner k).listing gauge pass) entry e).0) (λ j n e. e) q

  duty_before : (q : ℕ) (duty : Duty) → (scanner_meets (s.scanner k) pass (s.session pass)).duties q ≡ Some duty → (s.scanner k).duties q ≡ Some duty
  duty_before q duty =
      at-put (s.scanner k).duties pass (live_duty (s.session pass) ((s.scanner k).duties pass)) (λ j o. o ≡ Some duty → (s.scanner k).duties j ≡ Some duty)
      (λ e. (duty_lives (s.session pass) ((s.scanner k).duties pass) duty e).0) (λ j n e. e) q

  -- entries of a live generation stay, of the pass or another
  entries_stay : (gauge q generation : ℕ) → (q ≡ pass → is_live (s.session pass) generation ≡ true) → IsEntry ((s.scanner k).listing gauge q) generation → IsEntry ((scanner_meets (s.scanner k) pass (s.session pass)).listing gauge q) generation
  entries_stay gauge q generation l =
      at-put ((s.scanner k).listing gauge) pass (live_entry (s.session pass) ((s.scanner k).listing gauge pass)) (λ j o. (j ≡ pass → is_live (s.session pass) generation ≡ true) → IsEntry ((s.scanner k).listing gauge j) generation → IsEntry o generation)
      (λ v e. entry_stays (s.session pass) ((s.scanner k).listing gauge pass) generation (v refl) e) (λ j n v e. e) q l

  live_at : (q : ℕ) → IsOpen s q → q ≡ pass → is_live (s.session pass) (s.session q).generation ≡ true
  live_at q o e = subst (λ j. is_live (s.session j) (s.session q).generation ≡ true) e (open_lives (s.session q) o)

  duties_stay : (q : ℕ) → IsOpen s q → IsDuty ((s.scanner k).duties q) (s.session q).generation → IsDuty ((scanner_meets (s.scanner k) pass (s.session pass)).duties q) (s.session q).generation
  duties_stay =
      at-put (s.scanner k).duties pass (live_duty (s.session pass) ((s.scanner k).duties pass)) (λ j d. IsOpen s j → IsDuty ((s.scanner k).duties j) (s.session j).generation → IsDuty d (s.session j).generation)
      (λ o d. duty_stays (s.session pass) ((s.scanner k).duties pass) _ (open_lives (s.session pass) o) d) (λ j n o d. d)

  knows : (q g : ℕ) → known (met_readings (s.scanner k).meeting (s.scanner k).readings q) s.value g ≤ known (met_readings (met (s.session pass) pass) unread q) s.value g
  knows q = met_forgets (s.scanner k).meeting (met (s.session pass) pass) q (s.scanner k).readings s.value (r.readings.scanner k)

  duty_live : (q : ℕ) (duty : Duty) → (scanner_meets (s.scanner k) pass (s.session pass)).duties q ≡ Some duty → q ≡ pass → is_live (s.session pass) duty.generation ≡ true
  duty_live q duty =
      at-put (s.scanner k).duties pass (live_duty (s.session pass) ((s.scanner k).duties pass)) (λ j o. o ≡ Some duty → j ≡ pass → is_live (s.session pass) duty.generation ≡ true)
      (λ e p. (duty_lives (s.session pass) ((s.scanner k).duties pass) duty e).1) (λ j n e p. absurd (n p)) q

  newest : (gauge : ℕ) (meeting : Meeting) (entry : Entry) → met (s.session pass) pass ≡ Some meeting
      → (scanner_meets (s.scanner k) pass (s.session pass)).listing gauge meeting.pass ≡ Some entry → entry.generation ≡ meeting.generation
  newest gauge meeting entry m e =
      let is : meeting ≡ record { pass = pass; generation = (s.session pass).generation } = (met_as (s.session pass) pass meeting m).1 in
      sym (live_generation (s.session pass) entry.generation
      (at-put ((s.scanner k).listing gauge) pass (live_entry (s.session pass) ((s.scanner k).listing gauge pass)) (λ j o. o ≡ Some entry → j ≡ pass → is_live (s.session pass) entry.generation ≡ true)
      (λ q p. (entry_lives (s.session pass) ((s.scanner k).listing gauge pass) entry q).1) (λ j n q p. absurd (n p))
      meeting.pass e (ap (λ y. y.pass) is)))
      ∙ sym (ap (λ y. y.generation) is)

  pub stays : ScannerStays s k (scanner_meets (s.scanner k) pass (s.session pass))
  stays = record {
    began = λ g. refl;
    heard = r.debts.heard k;
    readings = unread_below s.value;
    learned = λ at word meeting m o g e. absurd (cc);
    meeting = λ meeting m.
        let is : meeting ≡ record { pass = pass; generation = (s.session pass).generation } = (met_as (s.session pass) pass meeting m).1 in
        subst (λ y. y.generation ≤ (s.session y.pass).generation) (sym is) (omega arith);
    entry = λ gauge q entry e. r.generations.entry k gauge q entry (entry_before gauge q entry e);
    live = λ gauge q o e. entries_stay gauge q _ (live_at q o) e;
    right = λ gauge q entry o e. r.listings.right k gauge q entry o (entry_before gauge q entry e);
    tally = λ q b o. scanner_tally s.shape (s.description q) s.value (s.scanner k) (scanner_meets (s.scanner k) pass (s.session pass)) q _ (duties_stay q o) (knows q);
    time = λ q b o. scanner_time s.shape (s.description q) s.value (s.scanner k) (scanner_meets (s.scanner k) pass (s.session pass)) q _ (duties_stay q o) (knows q);
    kept = record {
      heard = (r.scanners k).heard;
      entry = λ gauge q entry e. (r.scanners k).entry gauge q entry (entry_before gauge q entry e);
      duty = λ q duty d. entries_stay duty.gauge q duty.generation (duty_live q duty d) ((r.scanners k).duty q duty (duty_before q duty d));
      one_gauge = λ q j duty more d e. (r.scanners k).one_gauge q j duty more (duty_before q duty d) (duty_before j more e);
      met = newest;
    };
  }

pub keeps : (s : State) (scanner pass : ℕ) → IsUpheld s → CanMeet s scanner pass → IsUpheld (scanner_meeting s scanner pass)
keeps s scanner pass c can =
    carried _ (kept_by_scanner s scanner _ (kept_of s c) (stays s scanner pass (kept_of s c))) (scanner_wins_nothing s scanner _ refl c.sound.wins)
