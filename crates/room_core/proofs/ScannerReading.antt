-- Read, by a scanner: to take the present value as a reading never lowers what is known.
use Rattle.std.proofs.Common.{ℕ, ◌≤◌, refl, Some}
use Rattle.std.specs.Prelude.{is_some}
use Rattle.room_core.specs.Put.{put}
use Rattle.room_core.specs.Readings.{known}
use Rattle.room_core.specs.Duty.{met_readings}
use Rattle.room_core.specs.Checks.{CanReadScanner, scanner_reading, scanner_reads}
use Rattle.room_core.specs.Carried.{IsUpheld}
use Rattle.room_core.specs.State.{State}
use Rattle.room_core.proofs.Finding.{scanner_tally, scanner_time}
use Rattle.room_core.proofs.Known.{AreBelow, of_either, taken_below, known_taken, met_takes}
use Rattle.room_core.proofs.Kept.{IsKept, kept_of, carried}
use Rattle.room_core.proofs.Scanners.{ScannerStays, kept_by_scanner}
use Rattle.room_core.proofs.Winners.{scanner_wins_nothing}

module _ (s : State) (k gauge : ℕ) (r : IsKept s) where
  knows : (pass g : ℕ) → known (met_readings (s.scanner k).meeting (s.scanner k).readings pass) s.value g ≤ known (met_readings (s.scanner k).meeting (scanner_reads (s.scanner k) gauge (s.value gauge)).readings pass) s.value g
  knows pass =
      met_takes (s.scanner k).meeting pass (is_some (s.scanner k).meeting) (s.scanner k).readings (put (s.scanner k).readings gauge (Some (s.value gauge))) s.value
      (known_taken (s.scanner k).readings s.value gauge (r.readings.scanner k))

  pub stays : ScannerStays s k (scanner_reads (s.scanner k) gauge (s.value gauge))
  stays = record {
    began = λ g. refl;
    heard = r.debts.heard k;
    readings =
        of_either (λ q. AreBelow q s.value) (is_some (s.scanner k).meeting) (put (s.scanner k).readings gauge (Some (s.value gauge))) (s.scanner k).readings
        (λ e. taken_below (s.scanner k).readings s.value gauge (r.readings.scanner k)) (λ e. r.readings.scanner k);
    learned = r.generations.learned k;
    meeting = r.generations.meeting k;
    entry = r.generations.entry k;
    live = λ g pass o e. e;
    right = r.listings.right k;
    tally = λ pass b o. scanner_tally s.shape (s.description pass) s.value (s.scanner k) (scanner_reads (s.scanner k) gauge (s.value gauge)) pass _ (λ d. d) (knows pass);
    time = λ pass b o. scanner_time s.shape (s.description pass) s.value (s.scanner k) (scanner_reads (s.scanner k) gauge (s.value gauge)) pass _ (λ d. d) (knows pass);
    kept = record {
      heard = (r.scanners k).heard;
      entry = (r.scanners k).entry;
      duty = (r.scanners k).duty;
      one_gauge = (r.scanners k).one_gauge;
      met = (r.scanners k).met;
    };
  }

pub keeps : (s : State) (scanner gauge : ℕ) → IsUpheld s → CanReadScanner s scanner gauge → IsUpheld (scanner_reading s scanner gauge)
keeps s scanner gauge c can =
    carried _ (kept_by_scanner s scanner _ (kept_of s c) (stays s scanner gauge (kept_of s c))) (scanner_wins_nothing s scanner _ refl c.sound.wins)
