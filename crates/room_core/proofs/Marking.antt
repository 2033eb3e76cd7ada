-- Mark: by what was learned, the entry is the description's if the generation is open.
use Rattle.std.proofs.Common.{⊎_elim, inl, inr, ◌≡◌, ℕ, ◌+◌, ◌*◌, ◌-◌, ◌%◌, ◌<◌, ◌≤◌, cond, sym, ap, refl, subst, ◌∙◌, arith, Option, Some, None}
use Rattle.std.proofs.lemmas.Bool.{eq-eqb, ne_eqb}
use Rattle.room_core.specs.declared.shape.Shape.{Shape}
use Rattle.room_core.specs.declared.parts.Entry.{Entry}
use Rattle.room_core.specs.Put.{put}
use Rattle.room_core.specs.Gauges.{IsShape, IsGaugeOf, clock_of, scanner_of}
use Rattle.room_core.specs.Description.{gauge_of, deadline_of, marked_gauge}
use Rattle.room_core.specs.Duty.{IsOpen}
use Rattle.room_core.specs.Sound.{IsEntry}
use Rattle.room_core.specs.Meetings.{CanMark, marking, scanner_marks, MayMarkNeed, MayMarkClock, generation_met, words_of, entry_for}
use Rattle.room_core.specs.Carried.{IsUpheld, ScannerIsKept}
use Rattle.room_core.specs.State.{State}
use Rattle.room_core.proofs.Facts.{IsRightEntry, IsListed, WinsAreSound}
use Rattle.room_core.proofs.Puts.{put-same, at-place, place-same}
use Rattle.room_core.proofs.Dropping.{meeting_with, learned_is}
use Rattle.room_core.proofs.Kept.{IsKept, kept_of, carried}
use Rattle.room_core.proofs.Scanners.{ScannerStays, kept_by_scanner, with_scanner}
use Rattle.room_core.proofs.Words.{kept_by_mark}
use Rattle.room_core.proofs.Winners.{scanner_wins_nothing}

pub marked_need : (shape : Shape) (words : ℕ → ℕ) (i : ℕ) → i < 64 → marked_gauge shape words i ≡ gauge_of words i
unfolding marked_gauge
marked_need shape words i l = ap (λ b. cond b (clock_of shape) (gauge_of words i)) (ne_eqb i 64 (λ e. absurd (omega arith)))

pub marked_clock : (shape : Shape) (words : ℕ → ℕ) (i : ℕ) → i ≡ 64 → marked_gauge shape words i ≡ clock_of shape
unfolding marked_gauge
marked_clock shape words i e = ap (λ b. cond b (clock_of shape) (gauge_of words i)) (eq-eqb i 64 e)

-- the clock is a gauge of the scanner with the number 16
pub clock_own : (shape : Shape) → IsShape shape → IsGaugeOf shape 16 (clock_of shape)
unfolding scanner_of
clock_own shape h = record {
  there = omega (arith, h.some_gauges);
  scans = ap (λ b. cond b 16 (clock_of shape % (shape.scanners - 1))) (eq-eqb (clock_of shape) (clock_of shape) refl);
}

entry_met : (o : Option Entry) (generation met : ℕ) → ((entry : Entry) → o ≡ Some entry → entry.generation ≡ met) → IsEntry o generation → met ≡ generation
entry_met None generation met h e = absurd e
entry_met (Some x) generation met h e = sym (h x refl) ∙ e

module _ (s : State) (k pass at : ℕ) (r : IsKept s) (can : CanMark s k pass at) where
  met : (s.scanner k).meeting ≡ Some (record { pass = pass; generation = generation_met (s.scanner k).meeting })
  met = meeting_with (s.scanner k).meeting pass can.2

  below : generation_met (s.scanner k).meeting ≤ (s.session pass).generation
  below = r.generations.meeting k (record { pass = pass; generation = generation_met (s.scanner k).meeting }) met

  own : IsGaugeOf s.shape k (marked_gauge s.shape (words_of (s.scanner k)) at)
  own =
      ⊎_elim
      (λ (m : MayMarkNeed s.shape k (s.scanner k) at). subst (IsGaugeOf s.shape k) (sym (marked_need s.shape (words_of (s.scanner k)) at m.need)) m.own)
      (λ (m : MayMarkClock k (s.scanner k) at).
      subst (IsGaugeOf s.shape k) (sym (marked_clock s.shape (words_of (s.scanner k)) at m.clock))
      (subst (λ j. IsGaugeOf s.shape j (clock_of s.shape)) (sym m.own) (clock_own s.shape r.shape)))
      can.3

  right_here : IsOpen s pass → (s.session pass).generation ≡ generation_met (s.scanner k).meeting
      → IsRightEntry s (marked_gauge s.shape (words_of (s.scanner k)) at) pass (entry_for (s.scanner k) at)
  right_here o g =
      ⊎_elim
      (λ (m : MayMarkNeed s.shape k (s.scanner k) at).
      inl (record {
        need = at;
        within = omega (arith, m.within, learned_is s k pass 2 r can.2 o g m.count);
        is = sym (learned_is s k pass (3 + 3 * at) r can.2 o g m.gauge) ∙ sym (marked_need s.shape (words_of (s.scanner k)) at m.need);
      }))
      (λ (m : MayMarkClock k (s.scanner k) at).
      inr (
        marked_clock s.shape (words_of (s.scanner k)) at m.clock,
        ap (λ b. cond b (deadline_of (words_of (s.scanner k))) 0) (eq-eqb at 64 m.clock) ∙ learned_is s k pass 1 r can.2 o g m.deadline,
      ))
      can.3

  gauge_same : IsOpen s pass → (s.session pass).generation ≡ generation_met (s.scanner k).meeting
      → marked_gauge s.shape (words_of (s.scanner k)) at ≡ marked_gauge s.shape (s.description pass) at
  gauge_same o g =
      ⊎_elim
      (λ (m : MayMarkNeed s.shape k (s.scanner k) at).
      marked_need s.shape (words_of (s.scanner k)) at m.need ∙ learned_is s k pass (3 + 3 * at) r can.2 o g m.gauge ∙ sym (marked_need s.shape (s.description pass) at m.need))
      (λ (m : MayMarkClock k (s.scanner k) at).
      marked_clock s.shape (words_of (s.scanner k)) at m.clock ∙ sym (marked_clock s.shape (s.description pass) at m.clock))
      can.3

  -- the entry that is replaced is of the generation that was met
  stays_at : (generation gauge q : ℕ) → IsEntry ((s.scanner k).listing gauge q) generation → IsEntry ((scanner_marks s.shape (s.scanner k) pass at).listing gauge q) generation
  stays_at generation =
      at-place (s.scanner k).listing (marked_gauge s.shape (words_of (s.scanner k)) at) pass (Some (entry_for (s.scanner k) at))
      (λ h j o. IsEntry ((s.scanner k).listing h j) generation → IsEntry o generation)
      (entry_met ((s.scanner k).listing (marked_gauge s.shape (words_of (s.scanner k)) at) pass) generation (generation_met (s.scanner k).meeting)
      (λ entry e. (r.scanners k).met (marked_gauge s.shape (words_of (s.scanner k)) at) (record { pass = pass; generation = generation_met (s.scanner k).meeting }) entry met e))
      (λ h j e. e)

  kept : ScannerIsKept s.shape k (scanner_marks s.shape (s.scanner k) pass at)
  kept = record {
    heard = (r.scanners k).heard;
    entry = λ gauge q entry.
        at-place (s.scanner k).listing (marked_gauge s.shape (words_of (s.scanner k)) at) pass (Some (entry_for (s.scanner k) at))
        (λ h j o. o ≡ Some entry → IsGaugeOf s.shape k h) (λ e. own) (λ h j e. (r.scanners k).entry h j entry e) gauge q;
    duty = λ q duty d. stays_at duty.generation duty.gauge q ((r.scanners k).duty q duty d);
    one_gauge = (r.scanners k).one_gauge;
    met = λ gauge meeting entry m e.
        at-place (s.scanner k).listing (marked_gauge s.shape (words_of (s.scanner k)) at) pass (Some (entry_for (s.scanner k) at))
        (λ h j o. j ≡ meeting.pass → o ≡ Some entry → entry.generation ≡ meeting.generation)
        (λ p q. let z : entry_for (s.scanner k) at ≡ entry = cc in ap (λ y. y.generation) (sym z) ∙ ap generation_met m)
        (λ h j p q. (r.scanners k).met h meeting entry m (subst (λ i. (s.scanner k).listing h i ≡ Some entry) p q))
        gauge meeting.pass refl e;
  }

  pub stays : ScannerStays s k (scanner_marks s.shape (s.scanner k) pass at)
  stays = record {
    began = λ g. refl;
    heard = r.debts.heard k;
    readings = r.readings.scanner k;
    learned = r.generations.learned k;
    meeting = r.generations.meeting k;
    entry = λ gauge q entry.
        at-place (s.scanner k).listing (marked_gauge s.shape (words_of (s.scanner k)) at) pass (Some (entry_for (s.scanner k) at))
        (λ h j o. o ≡ Some entry → entry.generation ≤ (s.session j).generation)
        (λ e. let z : entry_for (s.scanner k) at ≡ entry = cc in subst (λ y. y.generation ≤ (s.session pass).generation) z below)
        (λ h j e. r.generations.entry k h j entry e) gauge q;
    live = λ gauge q o. stays_at (s.session q).generation gauge q;
    right = λ gauge q entry.
        at-place (s.scanner k).listing (marked_gauge s.shape (words_of (s.scanner k)) at) pass (Some (entry_for (s.scanner k) at))
        (λ h j x. IsOpen s j → x ≡ Some entry → entry.generation ≡ (s.session j).generation → IsRightEntry s h j entry)
        (λ o e g. let z : entry_for (s.scanner k) at ≡ entry = cc in subst (IsRightEntry s (marked_gauge s.shape (words_of (s.scanner k)) at) pass) z (right_here o (sym g ∙ ap (λ y. y.generation) (sym z))))
        (λ h j o e g. r.listings.right k h j entry o e g) gauge q;
    tally = λ q b o f. record { on_duty = f.on_duty; found = f.found };
    time = λ q b o f. record { on_duty = f.on_duty; found = f.found };
    kept = kept;
  }

  listed : IsOpen s pass → at ≤ 64 → generation_met (s.scanner k).meeting ≡ (s.session pass).generation
      → IsListed (with_scanner s k (scanner_marks s.shape (s.scanner k) pass at)) (marked_gauge s.shape (s.description pass) at) pass
  listed o l g =
      subst (λ h. IsListed (with_scanner s k (scanner_marks s.shape (s.scanner k) pass at)) h pass) (gauge_same o (sym g))
      (subst (λ j. IsEntry ((put s.scanner k (scanner_marks s.shape (s.scanner k) pass at) j).listing (marked_gauge s.shape (words_of (s.scanner k)) at) pass) (s.session pass).generation) (sym own.scans)
      (subst (λ x. IsEntry (x.listing (marked_gauge s.shape (words_of (s.scanner k)) at) pass) (s.session pass).generation) (sym (put-same s.scanner k (scanner_marks s.shape (s.scanner k) pass at)))
      (subst (λ o. IsEntry o (s.session pass).generation)
      (sym (place-same (s.scanner k).listing (marked_gauge s.shape (words_of (s.scanner k)) at) pass (Some (entry_for (s.scanner k) at))))
      g)))

  pub kept_now : IsKept (marking s k pass at)
  kept_now =
      kept_by_mark (with_scanner s k (scanner_marks s.shape (s.scanner k) pass at)) pass at (generation_met (s.scanner k).meeting)
      (kept_by_scanner s k (scanner_marks s.shape (s.scanner k) pass at) r stays) below listed

pub keeps : (s : State) (scanner pass at : ℕ) → IsUpheld s → CanMark s scanner pass at → IsUpheld (marking s scanner pass at)
keeps s scanner pass at c can =
    let w : WinsAreSound (with_scanner s scanner (scanner_marks s.shape (s.scanner scanner) pass at)) = scanner_wins_nothing s scanner _ refl c.sound.wins in
    carried _ (kept_now s scanner pass at (kept_of s c) can) (record { counted = w.counted; once = w.once })
