-- Hear: what is heard is asked, of a gauge of the scanner's own.
use Rattle.std.proofs.Common.{◌≡◌, ℕ, ◌≤◌, refl, subst, arith, Some}
use Rattle.room_core.specs.declared.parts.Heard.{Heard}
use Rattle.room_core.specs.Gauges.{IsGaugeOf}
use Rattle.room_core.specs.Scans.{CanHear, hearing, scanner_hears}
use Rattle.room_core.specs.Carried.{IsUpheld}
use Rattle.room_core.specs.State.{State}
use Rattle.room_core.proofs.Kept.{IsKept, kept_of, carried}
use Rattle.room_core.proofs.Scanners.{ScannerStays, kept_by_scanner}
use Rattle.room_core.proofs.Winners.{scanner_wins_nothing}

module _ (s : State) (k gauge : ℕ) (r : IsKept s) (can : CanHear s k gauge) where
  number : (heard : Heard) → (scanner_hears (s.scanner k) gauge (s.asked gauge)).heard ≡ Some heard → heard.number ≤ s.asked heard.gauge
  number heard e =
      let q : record { gauge = gauge; number = s.asked gauge } ≡ heard = cc in
      subst (λ h. h.number ≤ s.asked h.gauge) q (omega arith)

  own : (heard : Heard) → (scanner_hears (s.scanner k) gauge (s.asked gauge)).heard ≡ Some heard → IsGaugeOf s.shape k heard.gauge
  own heard e =
      let q : record { gauge = gauge; number = s.asked gauge } ≡ heard = cc in
      subst (λ h. IsGaugeOf s.shape k h.gauge) q can.1

  pub stays : ScannerStays s k (scanner_hears (s.scanner k) gauge (s.asked gauge))
  stays = record {
    began = λ g. refl;
    heard = number;
    readings = r.readings.scanner k;
    learned = r.generations.learned k;
    meeting = r.generations.meeting k;
    entry = r.generations.entry k;
    live = λ g pass o e. e;
    right = r.listings.right k;
    tally = λ pass b o f. record { on_duty = f.on_duty; found = f.found };
    time = λ pass b o f. record { on_duty = f.on_duty; found = f.found };
    kept = record {
      heard = own;
      entry = (r.scanners k).entry;
      duty = (r.scanners k).duty;
      one_gauge = (r.scanners k).one_gauge;
      met = (r.scanners k).met;
    };
  }

pub keeps : (s : State) (scanner gauge : ℕ) → IsUpheld s → CanHear s scanner gauge → IsUpheld (hearing s scanner gauge)
keeps s scanner gauge c can =
    carried _ (kept_by_scanner s scanner _ (kept_of s c) (stays s scanner gauge (kept_of s c) can)) (scanner_wins_nothing s scanner _ refl c.sound.wins)
