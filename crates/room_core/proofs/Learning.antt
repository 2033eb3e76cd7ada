-- Learn: what is learned is the description while that generation is open.
use Rattle.std.proofs.Common.{◌≡◌, ℕ, sym, ap, refl, ◌∙◌, Option, Some, None}
use Rattle.room_core.specs.declared.parts.Meeting.{Meeting}
use Rattle.room_core.specs.Duty.{IsOpen}
use Rattle.room_core.specs.Meetings.{CanLearn, learning, scanner_learns, IsMet}
use Rattle.room_core.specs.Carried.{IsUpheld}
use Rattle.room_core.specs.State.{State}
use Rattle.room_core.proofs.Puts.{at-put}
use Rattle.room_core.proofs.Kept.{IsKept, kept_of, carried}
use Rattle.room_core.proofs.Scanners.{ScannerStays, kept_by_scanner}
use Rattle.room_core.proofs.Winners.{scanner_wins_nothing}

-- who was met
pub met_pass : (o : Option Meeting) (meeting : Meeting) (pass : ℕ) → IsMet o pass → o ≡ Some meeting → meeting.pass ≡ pass
met_pass None meeting pass m e = absurd m
met_pass (Some x) meeting pass m e = let q : x ≡ meeting = cc in sym (ap (λ y. y.pass) q) ∙ m

module _ (s : State) (k pass at : ℕ) (r : IsKept s) (can : CanLearn s k pass at) where
  learned : (i word : ℕ) (meeting : Meeting) → (s.scanner k).meeting ≡ Some meeting → IsOpen s meeting.pass
      → (s.session meeting.pass).generation ≡ meeting.generation → (scanner_learns (s.scanner k) at (s.description pass at)).learned i ≡ Some word → word ≡ s.description meeting.pass i
  learned i word meeting m o g =
      at-put (s.scanner k).learned at (Some (s.description pass at)) (λ j x. x ≡ Some word → word ≡ s.description meeting.pass j)
      (λ e. let q : s.description pass at ≡ word = cc in sym q ∙ ap (λ p. s.description p at) (sym (met_pass (s.scanner k).meeting meeting pass can.3 m)))
      (λ j n. r.generations.learned k j word meeting m o g) i

  pub stays : ScannerStays s k (scanner_learns (s.scanner k) at (s.description pass at))
  stays = record {
    began = λ g. refl;
    heard = r.debts.heard k;
    readings = r.readings.scanner k;
    learned = learned;
    meeting = r.generations.meeting k;
    entry = r.generations.entry k;
    live = λ g p o e. e;
    right = r.listings.right k;
    tally = λ p b o f. record { on_duty = f.on_duty; found = f.found };
    time = λ p b o f. record { on_duty = f.on_duty; found = f.found };
    kept = record {
      heard = (r.scanners k).heard;
      entry = (r.scanners k).entry;
      duty = (r.scanners k).duty;
      one_gauge = (r.scanners k).one_gauge;
      met = (r.scanners k).met;
    };
  }

pub keeps : (s : State) (scanner pass at : ℕ) → IsUpheld s → CanLearn s scanner pass at → IsUpheld (learning s scanner pass at)
keeps s scanner pass at c can =
    carried _ (kept_by_scanner s scanner _ (kept_of s c) (stays s scanner pass at (kept_of s c) can)) (scanner_wins_nothing s scanner _ refl c.sound.wins)
