-- Read, by a pass: to take the present value as a reading never lowers what is known.
use Rattle.std.proofs.Common.{ℕ, ◌≤◌, max, refl, arith, Some}
use Rattle.room_core.specs.Put.{put}
use Rattle.room_core.specs.Checks.{CanReadPass, pass_reading, caller_reads, is_checking}
use Rattle.room_core.specs.Readings.{known}
use Rattle.room_core.specs.Duty.{owner_readings}
use Rattle.room_core.specs.Carried.{IsUpheld}
use Rattle.room_core.specs.State.{State}
use Rattle.room_core.proofs.Puts.{at-put}
use Rattle.room_core.proofs.Finding.{owner_tally, owner_time}
use Rattle.room_core.proofs.Known.{AreBelow, of_either, taken_below, known_taken, owner_takes}
use Rattle.room_core.proofs.Kept.{IsKept, kept_of, carried}
use Rattle.room_core.proofs.Callers.{CallerStays, kept_by_caller}
use Rattle.room_core.proofs.Winners.{caller_wins_nothing}

module _ (s : State) (pass gauge : ℕ) (k : IsKept s) where
  knows : (g : ℕ) → known (owner_readings (s.caller pass).stage (s.caller pass).readings) s.value g ≤ known (owner_readings (s.caller pass).stage (caller_reads (s.caller pass) gauge (s.value gauge)).readings) s.value g
  knows =
      owner_takes (s.caller pass).stage (s.caller pass).readings (put (s.caller pass).readings gauge (Some (s.value gauge))) s.value
      (known_taken (s.caller pass).readings s.value gauge (k.readings.owner pass))

  pub stays : CallerStays s pass (caller_reads (s.caller pass) gauge (s.value gauge))
  stays = record {
    owed = k.debts.owed pass;
    owes = λ g l h. h;
    greatest =
        at-put (s.caller pass).greatest gauge (max ((s.caller pass).greatest gauge) (s.value gauge)) (λ g x. x ≤ s.value g)
        (omega (arith, k.readings.greatest pass gauge)) (λ g n. k.readings.greatest pass g);
    readings =
        of_either (λ r. AreBelow r s.value) (is_checking (s.caller pass).stage) (put (s.caller pass).readings gauge (Some (s.value gauge))) (s.caller pass).readings
        (λ e. taken_below (s.caller pass).readings s.value gauge (k.readings.owner pass)) (λ e. k.readings.owner pass);
    generation = refl;
    description = λ at. refl;
    stage = k.owners.stage pass;
    busy = λ b. b;
    seen = k.listings.seen pass;
    complete = k.listings.complete pass;
    tally = λ o. owner_tally s.shape (s.description pass) s.value (s.caller pass) (caller_reads (s.caller pass) gauge (s.value gauge)) (λ d. d) knows;
    time = λ o. owner_time s.shape (s.description pass) s.value (s.caller pass) (caller_reads (s.caller pass) gauge (s.value gauge)) (λ d. d) knows;
    taken = refl;
  }

pub keeps : (s : State) (pass gauge : ℕ) → IsUpheld s → CanReadPass s pass gauge → IsUpheld (pass_reading s pass gauge)
keeps s pass gauge c can =
    carried _ (kept_by_caller s pass _ (kept_of s c) (stays s pass gauge (kept_of s c))) (caller_wins_nothing s pass _ refl refl c.sound.wins)
