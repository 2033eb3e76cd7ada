-- Every event leaves what lies outside the shape as it was.
use Rattle.std.proofs.Common.{⊎_elim, ◌≡◌, ℕ, ◌+◌, ◌^◌, ◌<◌, sym, subst, arith, Option, Some, None}
use Rattle.std.specs.Prelude.{◌==◌}
use Rattle.room_core.specs.declared.shape.Shape.{Shape}
use Rattle.room_core.specs.declared.event.How.{How}
use Rattle.room_core.specs.declared.event.CoreEvent.{CoreEvent}
use Rattle.room_core.specs.declared.event.CoreEvent.TheVariants.{Store, Ask, Hush, Hear, Begin, Relieve, Describe, Open, Meet, Learn, Mark, Marked, Read, Leave, Win, Peek, Idle, Part}
use Rattle.room_core.specs.declared.event.Party.TheVariants.{Pass, Scanner}
use Rattle.room_core.specs.declared.parts.Session.{Session}
use Rattle.room_core.specs.declared.parts.Entry.{Entry}
use Rattle.room_core.specs.declared.parts.Duty.{Duty}
use Rattle.room_core.specs.Put.{put}
use Rattle.room_core.specs.Gauges.{IsPass}
use Rattle.room_core.specs.Meetings.{CanMark, MayMarkNeed, MayMarkClock, live_entry, live_duty, scanner_meets, scanner_marks, entry_for, generation_met, words_of}
use Rattle.room_core.specs.Description.{marked_gauge}
use Rattle.room_core.specs.Scans.{scanner_begins, duty_of, number_heard}
use Rattle.room_core.specs.Checks.{exchanged, other_entry, scanner_lets_go, scanner_takes, scanner_leaves, scanner_answers, scanner_wins, gauge_of_duty}
use Rattle.room_core.specs.Carried.{IsUpheld}
use Rattle.room_core.specs.Within.{IsWithin, ScannerIsWithin}
use Rattle.room_core.specs.State as states
use Rattle.room_core.specs.State.{State}
use Rattle.room_core.specs.Step.{IsAllowed, changed}
use Rattle.room_core.proofs.Puts.{at-put, at-place}
use Rattle.room_core.proofs.Known.{of_either}
use Rattle.room_core.proofs.Dropping.{dropped}
use Rattle.room_core.proofs.Meetings.{met_as}
use Rattle.room_core.proofs.Words.{exchange_stays}
use Rattle.room_core.proofs.Outside.{with_value, with_asked, with_begun, with_source, with_session, with_word, with_mark, with_caller, with_scanner}

-- a duty is made of an entry
duty_entry : (shape : Shape) (gauge begun heard : ℕ) (o : Option Entry) (duty : Duty) → duty_of shape gauge begun heard o ≡ Some duty → (entry : Entry) × (o ≡ Some entry)
unfolding duty_of
duty_entry shape gauge begun heard None duty e = absurd (cc)
duty_entry shape gauge begun heard (Some x) duty e = (x, λ i. Some x)

-- an entry that isn't dropped was there
other_was : (o : Option Entry) (generation : ℕ) (entry : Entry) → other_entry o generation ≡ Some entry → o ≡ Some entry
unfolding other_entry
other_was None generation entry = λ e. absurd (cc)
other_was (Some x) generation entry =
    of_either (λ y. y ≡ Some entry → Some x ≡ Some entry) (x.generation == generation) None (Some x) (λ t e. absurd (cc)) (λ t e. e)

module _ (shape : Shape) (scanner : states.Scanner) (r : ScannerIsWithin shape scanner) where
  begins : (gauge begun : ℕ) → ScannerIsWithin shape (scanner_begins shape scanner gauge begun)
  begins gauge begun = record {
    entry = r.entry;
    duty = λ pass duty e.
        let was : (entry : Entry) × (scanner.listing gauge pass ≡ Some entry) = duty_entry shape gauge begun (number_heard scanner.heard) (scanner.listing gauge pass) duty e in
        r.entry gauge pass was.0 was.1;
    meeting = λ meeting e. absurd (cc);
  }

  meets : (pass : ℕ) (w : Session) → IsPass shape pass → ScannerIsWithin shape (scanner_meets scanner pass w)
  meets pass w is = record {
    entry = λ gauge q entry.
        at-put (scanner.listing gauge) pass (live_entry w (scanner.listing gauge pass)) (λ j o. o ≡ Some entry → IsPass shape j)
        (λ e. is) (λ j n e. r.entry gauge j entry e) q;
    duty = λ q duty.
        at-put scanner.duties pass (live_duty w (scanner.duties pass)) (λ j o. o ≡ Some duty → IsPass shape j) (λ e. is) (λ j n e. r.duty j duty e) q;
    meeting = λ meeting e. subst (λ m. IsPass shape m.pass) (sym (met_as w pass meeting e).1) is;
  }

  marks : (pass at : ℕ) → IsPass shape pass → ScannerIsWithin shape (scanner_marks shape scanner pass at)
  marks pass at is = record {
    entry = λ gauge q entry.
        at-place scanner.listing (marked_gauge shape (words_of scanner) at) pass (Some (entry_for scanner at)) (λ h j o. o ≡ Some entry → IsPass shape j)
        (λ e. is) (λ h j e. r.entry h j entry e) gauge q;
    duty = r.duty;
    meeting = r.meeting;
  }

  lets_go : (pass : ℕ) → ScannerIsWithin shape (scanner_lets_go scanner pass)
  lets_go pass = record {
    entry = r.entry;
    duty = λ q duty e. r.duty q duty (dropped scanner.duties pass q duty e);
    meeting = λ meeting e. absurd (cc);
  }

  takes : (gauge value : ℕ) → ScannerIsWithin shape (scanner_takes scanner gauge value)
  takes gauge value = record { entry = r.entry; duty = r.duty; meeting = r.meeting }

  leaves : (k pass gauge value : ℕ) → ScannerIsWithin shape (scanner_leaves shape k scanner pass gauge value)
  leaves k pass gauge value =
      of_either (ScannerIsWithin shape) (scanner_answers shape k (words_of scanner) (put scanner.readings gauge (Some value))) (scanner_takes scanner gauge value) (scanner_lets_go scanner pass)
      (λ t. takes gauge value) (λ t. lets_go pass)

  wins : (pass : ℕ) (how : How) (w : Session) → ScannerIsWithin shape (scanner_wins scanner pass how w)
  wins pass how w = record {
    entry = λ gauge q entry.
        at-place scanner.listing (gauge_of_duty (scanner.duties pass)) pass (other_entry (scanner.listing (gauge_of_duty (scanner.duties pass)) pass) (generation_met scanner.meeting))
        (λ h j o. o ≡ Some entry → IsPass shape j)
        (λ e. r.entry (gauge_of_duty (scanner.duties pass)) pass entry (other_was (scanner.listing (gauge_of_duty (scanner.duties pass)) pass) (generation_met scanner.meeting) entry e))
        (λ h j e. r.entry h j entry e) gauge q;
    duty = λ q duty e. r.duty q duty (dropped scanner.duties pass q duty e);
    meeting = λ meeting e. absurd (cc);
  }

-- an exchange leaves the generation
exchanged_few : (w : Session) (generation : ℕ) (how : How) (by : ℕ) → w.generation < 2 ^ 32 → (exchanged w generation how by).generation < 2 ^ 32
exchanged_few w generation how by l = let same : (exchanged w generation how by).generation ≡ w.generation = (exchange_stays w generation how by).generation in omega arith

-- a mark has a place
marked_few : (s : State) (k pass at : ℕ) → CanMark s k pass at → at < 65
marked_few s k pass at can =
    ⊎_elim (λ (m : MayMarkNeed s.shape k (s.scanner k) at). omega (arith, m.need)) (λ (m : MayMarkClock k (s.scanner k) at). omega (arith, m.clock)) can.3

pub stays_within : (s : State) (event : CoreEvent) → IsUpheld s → IsWithin s → IsAllowed s event → IsWithin (changed s event)
stays_within s (Store gauge value) c w can = with_source _ (with_value s w gauge value can.0) gauge _ can.0
stays_within s (Ask pass gauge value) c w can = with_caller _ (with_asked s w gauge _ can.1) pass _ can.0
stays_within s (Hush gauge) c w can = with_source s w gauge _ can
stays_within s (Hear k gauge) c w can =
    with_scanner s w k _ can.0 (record { entry = (w.scanners.each k).entry; duty = (w.scanners.each k).duty; meeting = (w.scanners.each k).meeting })
stays_within s (Begin k gauge) c w can = with_scanner _ (with_begun s w gauge _ can.1) k _ can.0 (begins s.shape (s.scanner k) (w.scanners.each k) gauge (s.begun gauge))
stays_within s (Relieve pass gauge) c w can = with_caller s w pass _ can.0
stays_within s (Describe pass at word) c w can = with_caller _ (with_word s w pass at word can.0 can.1) pass _ can.0
stays_within s (Open pass) c w can =
    let same : (s.session pass).generation ≡ (s.caller pass).generation = c.sound.owners.generation pass in
    with_caller _ (with_session s w pass _ can.0 (omega (arith, can.3))) pass _ can.0
stays_within s (Meet k pass) c w can = with_scanner s w k _ can.0 (meets s.shape (s.scanner k) (w.scanners.each k) pass (s.session pass) can.1)
stays_within s (Learn k pass at) c w can =
    with_scanner s w k _ can.0 (record { entry = (w.scanners.each k).entry; duty = (w.scanners.each k).duty; meeting = (w.scanners.each k).meeting })
stays_within s (Mark k pass at) c w can =
    with_scanner _ (with_mark s w pass at _ can.1 (marked_few s k pass at can)) k _ can.0 (marks s.shape (s.scanner k) (w.scanners.each k) pass at can.1)
stays_within s (Marked pass at) c w can = with_caller s w pass _ can.0
stays_within s (Read (Pass pass) gauge) c w can = with_caller s w pass _ can.0
stays_within s (Read (Scanner k) gauge) c w can =
    with_scanner s w k _ can.0 (record { entry = (w.scanners.each k).entry; duty = (w.scanners.each k).duty; meeting = (w.scanners.each k).meeting })
stays_within s (Leave (Pass own) pass gauge) c w can = with_caller s w pass _ can.1.0
stays_within s (Leave (Scanner k) pass gauge) c w can = with_scanner s w k _ can.0 (leaves s.shape (s.scanner k) (w.scanners.each k) k pass gauge (s.value gauge))
stays_within s (Win (Pass own) pass how) c w can =
    with_caller _ (with_session s w pass _ can.1.0 (exchanged_few (s.session pass) (s.caller pass).generation how (17 + pass) (w.passes.generation pass))) pass _ can.1.0
stays_within s (Win (Scanner k) pass how) c w can =
    with_scanner _ (with_session s w pass _ can.1 (exchanged_few (s.session pass) (generation_met (s.scanner k).meeting) how k (w.passes.generation pass))) k _ can.0
    (wins s.shape (s.scanner k) (w.scanners.each k) pass how (s.session pass))
stays_within s (Peek pass) c w can = with_caller s w pass _ can.0
stays_within s (Idle pass) c w can =
    let same : (s.session pass).generation ≡ (s.caller pass).generation = c.sound.owners.generation pass in
    with_caller _ (with_session s w pass _ can.0 (omega (arith, w.passes.generation pass))) pass _ can.0
stays_within s Part c w can = w
